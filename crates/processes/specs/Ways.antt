-- Ways of a process graph along mark-0 templates. Document 01, section "Process graphs and their unfolding": "A cycle of mark-0 templates isn't refused here;
-- the analysis refuses the result with 5". Report, section 2.1, of a well-formed process graph: "ε(c) > 0 for all cycles c in the graph, where
-- ε(c) is the sum of the ε values for all edges in cycle c"; that is, it has no cycle of mark-0 templates.
--     MarkZeroWay g u v       == a way from process event u to process event v along templates with mark 0; the empty way from v to v is one
--     templates_on w           == how many templates stand on w
--     OnMarkZeroCycle g v     == there is a way from v to itself on which a template stands
--     MarkZeroCycle g         == some process event has one
-- Assumes nothing.
use Rattle.std.specs.Prelude.{◌≡◌, ℕ, suc, ◌<◌}
use Rattle.processes.specs.declared.Event.{Event}
use Rattle.processes.specs.Process.{ProcessGraph, templates, source, target, mark}

pub data MarkZeroWay (g : ProcessGraph) : Event → Event → Type 0 where
  empty : {v : Event} → MarkZeroWay g v v
  along : {u v w : Event} (j : ℕ) → j < templates g → mark g j ≡ 0 → source g j ≡ u → target g j ≡ v → MarkZeroWay g v w → MarkZeroWay g u w

abbrev pub templates_on : {g : ProcessGraph} {u v : Event} → MarkZeroWay g u v → ℕ
templates_on empty = 0
templates_on (along j l m e f w) = suc (templates_on w)

abbrev pub OnMarkZeroCycle : ProcessGraph → Event → Type 0
OnMarkZeroCycle g v = (w : MarkZeroWay g v v) × (0 < templates_on w)

-- "A cycle of mark-0 templates"
abbrev pub MarkZeroCycle : ProcessGraph → Type 0
MarkZeroCycle g = (v : Event) × OnMarkZeroCycle g v
