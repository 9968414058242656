use mathlib.Core.Path.{◌≡◌, ◌∙◌}
use native.Mathlib.Omega.{arith}
use lib.Dec.{lit<}
use lib.IntN.{ℤ, pos, ◌-ℤ◌}
use mir.Syntax.{w32, w64}
use mir.Val.{to_z, of_z}
use mir.ValLaws.{to_z-of_z}
use Rattle.integers.specs.Within.{Within}
use Rattle.integers.proofs.Word.{read_back}
use Rattle.sequences.proofs.Filling.{filling_more}
use Rattle.separation.proofs.lists.write_times.Goals as goal

back : {x : ℤ} → Within 2050048000 x → Within 2050048000 (to_z w32 (of_z w32 x))
back {x} h = rw (read_back w32 2050048000 x (lit< tt) h) h

read : (x y : ℤ) → Within 2050048000 x → Within 2050048000 y → to_z w32 (of_z w32 x) -ℤ to_z w32 (of_z w32 y) ≡ x -ℤ y
read x y h k = rw (read_back w32 2050048000 x (lit< tt) h, read_back w32 2050048000 y (lit< tt) k)

pub difference-requires : goal.difference-requires
difference-requires c =
    let near = c.requires.within in
    (back (near _ c.loop-v-test.true), back (near 0 (omega arith)))

pub loop-v-preserved : goal.loop-v-preserved
loop-v-preserved c =
    let near = c.requires.within in
    filling_more (pos 0) _ _ _ c.loop-v.v _ _ (omega arith) c.loop-v.invariant c.loop-v-test.true
    (to_z-of_z w64 c.difference.result (record { sfits = c.difference.type_inv }) ∙ c.difference.ensures ∙ read _ _ (near _ c.loop-v-test.true) (near 0 (omega arith)))
