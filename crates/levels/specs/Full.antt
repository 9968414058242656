-- The graph unfolded in full, for any K. Document 02, request 7: "the graph unfolded in full, its 1,024 and 4,096 limits aside". Nobody builds it: it is what
-- the answer is about. That it `Unfolds`, and that no other graph does, is proved (`full_unfolds`, `unfolding_unique`).
--     listed n f              == the list f 0, f 1, …, f (n − 1)
--     source_at p m k i        == the number of the source of the rule that a template with mark m and source i gives at k
--     delay_at m k s d         == the delay of that rule, where the template's is d and its start delay s
--     source_of g i, target_of g i, least_of g i, most_of g i == the entries of rule i
--     full_unfolding g K       == the graph with 1 + p × K events whose rule k × templates + j is the instance of template j at k
-- Assumes nothing.
use Rattle.std.specs.Prelude.{List, [], ◌∷◌, ℕ, zero, suc, ◌+◌, ◌*◌, ◌/◌, ◌%◌, ℤ}
use Rattle.graphs.specs.Graph.{Graph, graph_of}
use Rattle.processes.specs.Process.{templates, source, target, least, most, mark, occurrence, ProcessGraph, start_least, start_most}

abbrev pub listed : {A : Type 0} → ℕ → (ℕ → A) → List A
listed zero f = []
listed (suc n) f = f 0 ∷ listed n (λ i. f (suc i))

abbrev pub source_at : ℕ → ℕ → ℕ → ℕ → ℕ
source_at p zero k i = 1 + k * p + i
source_at p (suc m) zero i = 0
source_at p (suc m) (suc k) i = 1 + k * p + i

abbrev pub delay_at : ℕ → ℕ → ℤ → ℤ → ℤ
delay_at zero k s d = d
delay_at (suc m) zero s d = s
delay_at (suc m) (suc k) s d = d

-- rule i stands in row i / templates, at place i % templates of it
abbrev pub source_of : ProcessGraph → ℕ → ℕ
source_of g i =
    let T = templates g in
    source_at g.events (mark g (i % T)) (i / T) (source g (i % T)).0

abbrev pub target_of : ProcessGraph → ℕ → ℕ
target_of g i = let T = templates g in (occurrence g (i / T) (target g (i % T))).0

abbrev pub least_of : ProcessGraph → ℕ → ℤ
least_of g i = let T = templates g in delay_at (mark g (i % T)) (i / T) (start_least g (i % T)) (least g (i % T))

abbrev pub most_of : ProcessGraph → ℕ → ℤ
most_of g i = let T = templates g in delay_at (mark g (i % T)) (i / T) (start_most g (i % T)) (most g (i % T))

abbrev pub full_unfolding : ProcessGraph → ℕ → Graph
full_unfolding g K =
    let n = templates g * K in
    graph_of (1 + g.events * K) (listed n (source_of g)) (listed n (target_of g)) (listed n (least_of g)) (listed n (most_of g))
