-- Laws of the pairs' lines, in the order in which they are written.
--     lines_of_table         the lines of a filled table are the lines of its graph
--     small_entries          an entry of a filled table is an exact answer, and small
--     pair_line_unique, lines_unique, refused_line_unique     what is written is written in one way
-- Assumes nothing.
use mathlib.Core.Path.{◌≡◌, refl, sym, ◌∙◌, subst}
use mathlib.Core.List.{List}
use Prim.Native.Nat.{ℕ, ◌<◌}
use native.Mathlib.Omega.{arith}
use lib.IntN.{ℤ, neg_ℤ}
use Rattle.graphs.specs.Graph.{Graph}
use Rattle.graphs.specs.Limits.{EventGraph}
use Rattle.executions.specs.Separation.{Separation}
use Rattle.executions.proofs.Unique.{separation_unique, least_unique, least_is_exchanged}
use Rattle.executions.proofs.Sizes.{exact_size}
use Rattle.numerals.specs.Numbers.{Integer}
use Rattle.text.specs.Output.{Pair, PairLine, Lines, none, more, RefusedLine}
use Rattle.table.specs.Table.{entry, RowsFilled}
use Rattle.text.specs.Parts.TableLines as inner
use Rattle.text.specs.Parts.TableLines.{TableLine, TableLines, SmallEntries}
use Rattle.numerals.proofs.Decimal.{natural_unique, integer_unique}

-- ---- from the table to the graph

module _ {g : Graph} {n : ℕ} {table : List ℤ} (same : g.events ≡ n) (filled : RowsFilled g n table) where
  separation_at : (s t : ℕ) → s < n → t < n → Separation g s t (entry table s t)
  separation_at s t ls lt = (filled.row s ls).each t (omega arith)

  pub small_entries : EventGraph 1000000 g → SmallEntries n table
  small_entries eg = record { each = λ s t ls lt. exact_size eg (omega arith) (omega arith) (separation_at s t ls lt) }

  pair_line : {p : Pair} {bs : List ℕ} → TableLine n table p bs → PairLine g p bs
  pair_line {p} l =
      record {
        least = neg_ℤ (entry table p.to p.from);
        most = entry table p.from p.to;
        is_least = least_is_exchanged (separation_at p.to p.from l.to_known l.from_known);
        is_most = separation_at p.from p.to l.from_known l.to_known;
        from_field = l.line.from_field;
        to_field = l.line.to_field;
        least_field = l.line.least_field;
        most_field = l.line.most_field;
        from_written = l.line.from_written;
        to_written = l.line.to_written;
        least_written = l.line.least_written;
        most_written = l.line.most_written;
        bytes = l.line.bytes;
      }

  pub lines_of_table : {ps : List Pair} {bs : List ℕ} → TableLines n table ps bs → Lines g ps bs
  lines_of_table inner.none = none
  lines_of_table (inner.more line rest e l ls) = more line rest e (pair_line l) (lines_of_table ls)

-- ---- what is written is written in one way

pub pair_line_unique : {g : Graph} {p : Pair} {bs cs : List ℕ} → PairLine g p bs → PairLine g p cs → bs ≡ cs
pair_line_unique {g} {p} {bs} {cs} v w =
    let s : v.from_field ≡ w.from_field = natural_unique v.from_written w.from_written in
    let t : v.to_field ≡ w.to_field = natural_unique v.to_written w.to_written in
    let l : v.least ≡ w.least = least_unique v.is_least w.is_least in
    let m : v.most ≡ w.most = separation_unique v.is_most w.is_most in
    let d : v.least_field ≡ w.least_field = integer_unique (subst (Integer v.least_field) l v.least_written) w.least_written in
    let h : v.most_field ≡ w.most_field = integer_unique (subst (Integer v.most_field) m v.most_written) w.most_written in
    v.bytes ∙ rw (s, t, d, h) (sym w.bytes)

same_lines : {g : Graph} {ps qs : List Pair} {bs cs : List ℕ} → ps ≡ qs → Lines g ps bs → Lines g qs cs → bs ≡ cs
same_lines e none none = refl
same_lines e none (more _ _ _ _ _) = absurd (let z : ◌≡◌ {A = ℕ} 0 1 = cc in let n : ⊥ = omega arith in n)
same_lines e (more _ _ _ _ _) none = absurd (let z : ◌≡◌ {A = ℕ} 0 1 = cc in let n : ⊥ = omega arith in n)
same_lines {g} e (more {p = p} {ps = ps} line rest b l ls) (more {p = q} {ps = qs} line' rest' b' l' ls') =
    let first : p ≡ q = cc in
    let others : ps ≡ qs = cc in
    let x : line ≡ line' = pair_line_unique (subst (λ (r : Pair). PairLine g r line) first l) l' in
    let y : rest ≡ rest' = same_lines others ls ls' in
    b ∙ rw (x, y) (sym b')

pub lines_unique : {g : Graph} {ps : List Pair} {bs cs : List ℕ} → Lines g ps bs → Lines g ps cs → bs ≡ cs
lines_unique v w = same_lines refl v w

pub refused_line_unique : {k p : ℕ} {bs cs : List ℕ} → RefusedLine k p bs → RefusedLine k p cs → bs ≡ cs
refused_line_unique v w =
    let n : v.number_field ≡ w.number_field = natural_unique v.number_written w.number_written in
    let p : v.place_field ≡ w.place_field = natural_unique v.place_written w.place_written in
    v.bytes ∙ rw (n, p) (sym w.bytes)
