-- `capped` meets its contract: the difference of two small numbers fits its word. Assumes nothing.
use mathlib.Core.Path.{◌≡◌, refl}
use mathlib.Core.Bool.{Bool, true, false}
use mathlib.Core.Logic.{inl, inr}
use lib.IntN.{ℤ, ◌-ℤ◌}
use lib.Signed.{lt_z}
use mir.Syntax.{w64}
use mir.Val.{to_z, of_z}
use mir.ValLaws.{to_z-of_z}
use lib.Dec.{lit<}
use Rattle.std.proofs.Common.{cond}
use Rattle.std.specs.Int.{int_min}
use Rattle.integers.proofs.Integer.{linear}
use Rattle.executions.specs.Steps.{Lesser}
use Rattle.integers.proofs.Word.{difference_back}
use Rattle.separation.proofs.lists.capped.Goals as goal

lesser_of : (a b : ℤ) → Lesser a b (int_min b a)
lesser_of a b = go (lt_z a b) refl
  where
    go : (x : Bool) → lt_z a b ≡ x → Lesser a b (cond x a b)
    go true h = record { left = omega linear; right = omega linear; one = inl refl }
    go false h = record { left = omega linear; right = omega linear; one = inr refl }

pub returns : goal.returns
returns c =
    let d : to_z w64 (of_z w64 (to_z w64 (of_z w64 c.args.end) -ℤ to_z w64 (of_z w64 c.args.start))) ≡ c.args.end -ℤ c.args.start =
    difference_back w64 4100096000 4100096000 _ _ (lit< tt) c.requires.1 c.requires.0 in
    let m : to_z w64 (of_z w64 c.args.most) ≡ c.args.most = to_z-of_z w64 c.args.most c.ranges.most in
    let r : to_z w64 (of_z w64 c.min.result) ≡ c.min.result = to_z-of_z w64 c.min.result (record { sfits = c.min.type_inv }) in
    rw (r, c.min.ensures.value, d, m) (lesser_of _ _)
