use Prim.Native.Nat.{ℕ}
use mathlib.Core.Path.{◌≡◌, subst}
use native.Mathlib.Omega.{arith}
use lib.Dec.{lit<}
use mir.Syntax.{w64}
use Rattle.integers.proofs.Word.{difference_back}
use Rattle.table.specs.Parts.Rows.{RowCopied}
use Rattle.table.proofs.Rows.{copied_more}
use Rattle.table.proofs.copy_row.Goals as goal

pub loop-v-preserved : goal.loop-v-preserved
loop-v-preserved c =
    let near = c.requires.within in
    copied_more (omega arith) c.loop-v.invariant
    (difference_back w64 1023000000 1023000000 _ _ (lit< tt) (near _ c.loop-v-test.true) (near _ c.requires.in_bounds.0))

pub returns : goal.returns
returns c =
    let e : c.loop-v.v ≡ c.args.n = omega (arith, c.loop-v.auto.v-end, c.loop-v-test.false) in
    subst (λ (k : ℕ). RowCopied k c.args.from c.args.times.now c.args.table.now c.loop-v.table) e c.loop-v.invariant
