use lib.IntN.{ℤ, pos, ◌-ℤ◌}
use lib.Dec.{lit<}
use mir.Syntax.{w64}
use mir.Val.{SFits, to_z, of_z}
use mir.ValLaws.{to_z-of_z}
use Rattle.integers.specs.Within.{Within}
use Rattle.integers.proofs.Word.{read_back}
use Rattle.executions.specs.Steps.{Lesser}
use Rattle.sequences.proofs.Filling.{filling_more}
use Rattle.separation.proofs.lists.write_delays.Goals as goal

asked : {start end : ℤ} →
    Within 4100096000 start →
    Within 4100096000 end →
    Within 4100096000 (to_z w64 (of_z w64 start)) × Within 4100096000 (to_z w64 (of_z w64 end))
asked {start} {end} s e = (rw (read_back w64 4100096000 start (lit< tt)) s, rw (read_back w64 4100096000 end (lit< tt)) e)

written : {start end most : ℤ} (r : ℤ) →
    Within 4100096000 start →
    Within 4100096000 end →
    Within 1001000 most →
    SFits w64 r →
    Lesser (to_z w64 (of_z w64 end) -ℤ to_z w64 (of_z w64 start)) (to_z w64 (of_z w64 most)) r →
    Lesser (end -ℤ start) most (to_z w64 (of_z w64 r))
written {start} {end} {most} r s e m f h =
    rw
    to_z-of_z
    (rw (read_back w64 4100096000 end (lit< tt) e, read_back w64 4100096000 start (lit< tt) s, read_back w64 1001000 most (lit< tt) m) at h)

pub capped-requires : goal.capped-requires
capped-requires c =
    let r = c.requires.timed c.loop-i.i c.loop-i-test.true in
    asked r.source_within r.target_within

pub loop-i-preserved : goal.loop-i-preserved
loop-i-preserved c =
    let r = c.requires.timed c.loop-i.i c.loop-i-test.true in
    filling_more (pos 0) _ _ _ c.loop-i.i _ _ c.requires.lengths.3 c.loop-i.invariant c.loop-i-test.true
    (written _ r.source_within r.target_within r.most_within (record { sfits = c.capped.type_inv }) c.capped.ensures)
