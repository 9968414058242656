use Prim.Native.Nat.{ℕ, ◌+◌, ◌<◌, ◌≤◌}
use mathlib.Core.List.{List}
use native.Mathlib.Omega.{arith}
use lib.Dec.{lit<}
use lib.IntN.{ℤ, pos}
use lib.ListN.{length, get_or, set}
use mir.Syntax.{w64}
use mir.Val.{to_z, of_z}
use Rattle.integers.specs.Within.{Within}
use Rattle.integers.proofs.Word.{read_back}
use Rattle.rounding.specs.Rounding.{Down, Up}
use Rattle.sequences.proofs.Filling.{Filling, filling_more}
use Rattle.rounding.proofs.round_lists.Goals as goal

-- a turn writes the rounded delay of place i; the code holds bits, and numbers this small are read back as they are
written : (R : ℤ → ℤ → Type 0) (n : ℕ) (xs old new : List ℤ) (i : ℕ) (r : ℤ) →
    n ≤ length old →
    Filling (pos 0) n (λ j. R (get_or xs j (pos 0))) old i new →
    i < n →
    Within 1000000 (get_or xs i (pos 0)) →
    R (to_z w64 (of_z w64 (get_or xs i (pos 0)))) r × Within 1000999 r →
    Filling (pos 0) n (λ j. R (get_or xs j (pos 0))) old (i + 1) (set new i (to_z w64 (of_z w64 r)))
written R n xs old new i r room filling turn near rounded =
    let of_number : R (get_or xs i (pos 0)) r = rw (read_back w64 1000000 _ (lit< tt) near) at rounded.0 in
    filling_more (pos 0) n (λ j. R (get_or xs j (pos 0))) old i new _ room filling turn (rw (read_back w64 1000999 r (lit< tt) rounded.1) of_number)

pub loop-i-preserved : goal.loop-i-preserved
loop-i-preserved c =
    let inv = c.loop-i.invariant in
    let turn = c.loop-i-test.true in
    let near = c.requires.inside c.loop-i.i turn in (
      written (Down c.args.step.ticks) _ _ _ _ _ _ (omega arith) inv.0 turn near.0 c.down.ensures,
      written (Up c.args.step.ticks) _ _ _ _ _ _ (omega arith) inv.1 turn near.1 c.up.ensures,
    )
