-- The promise of the table fixes its result: two results allowed for one graph and one lent table are equal.
--     table_verdict_unique    a table has one verdict
--     placed                  a place stands in the first n columns of the first k rows, or it doesn't
--     tables_agree            two tables that hold the separations there and what they held elsewhere are equal
--     table_unique            so are the answers and the tables
-- Assumes nothing.
use Rattle.std.proofs.Common.{Result, refl}
use mathlib.Core.Path.{◌≡◌, sym, subst, ◌∙◌}
use mathlib.Core.Logic.{◌⊎◌, inl, inr, ⊎_elim}
use mathlib.Core.List.{List}
use Prim.Native.Nat.{ℕ, zero, suc, ◌+◌, ◌-◌, ◌*◌, ◌<◌}
use native.Mathlib.Nat.{not-suc-le-zero}
use native.Mathlib.Decide.{ℕ_discrete, dec_lt}
use native.Mathlib.Omega.{arith}
use lib.IntN.{ℤ, pos}
use lib.Seq.{ext_get_or}
use Rattle.verdicts.specs.Verdict.{FirstOf}
use Rattle.verdicts.proofs.Verdicts.{OneVerdict, lowest_unique, at_zero_unique, then_unique, one_verdict}
use Rattle.graphs.specs.Graph.{Graph}
use Rattle.graphs.specs.Refusal.{path_checks}
use Rattle.graphs.proofs.Refusals.{path_places}
use Rattle.executions.proofs.Unique.{separation_unique}
use Rattle.separation.specs.Promise.{at}
use Rattle.refusals.specs.declared.Refusal.{Refusal}
use Rattle.refusals.specs.Numbers.{number_in, place_in}
use Rattle.refusals.proofs.Unique.{same_result}
use Rattle.table.specs.Table.{RowsFilled, OthersKept, table_checks, TableVerdict, TableAnswered}

pub table_verdict_unique : (g : Graph) (table₀ : List ℤ) → OneVerdict (TableVerdict g table₀)
table_verdict_unique g table₀ =
    then_unique (table_checks g table₀) {Rest = FirstOf (path_checks g)} (at_zero_unique, (at_zero_unique, (at_zero_unique, (lowest_unique, (lowest_unique, tt))))) (one_verdict (path_checks g) (path_places g))

-- ---- the table

abbrev Inside : ℕ → ℕ → ℕ → Type 0
Inside n k i = (s t : ℕ) × (s < k) × (t < n) × (i ≡ s * 64 + t)

abbrev Outside : ℕ → ℕ → ℕ → Type 0
Outside n k i = (s t : ℕ) → s < k → t < n → i ≡ s * 64 + t → ⊥

placed : (n k i : ℕ) → Inside n k i ⊎ Outside n k i
placed n zero i = inr (λ s t l. absurd (not-suc-le-zero l))
placed n (suc k) i = ⊎_elim (λ h. inl (h.0, h.1, omega (arith, h.2), h.3, h.4)) here (placed n k i)
  where
    here : Outside n k i → Inside n (suc k) i ⊎ Outside n (suc k) i
    here before = go (dec_lt i (k * 64)) (dec_lt i (k * 64 + n))
      where
        last : (s : ℕ) → s < suc k → Dec (s < k) → (s < k) ⊎ (s ≡ k)
        last s l (yes h) = inl h
        last s l (no h) = inr (omega arith)

        none_here : ((t : ℕ) → t < n → i ≡ k * 64 + t → ⊥) → Outside n (suc k) i
        none_here none s t l m e =
            ⊎_elim (λ h. before s t h m e) (λ h. none t m (let f : i ≡ k * 64 + t = omega arith in f)) (last s l (dec_lt s k))

        go : Dec (i < k * 64) → Dec (i < k * 64 + n) → Inside n (suc k) i ⊎ Outside n (suc k) i
        go (yes l) m = inr (none_here (λ t h e. let no : ⊥ = omega arith in no))
        go (no l) (yes m) = inl (k, i - k * 64, omega arith, omega arith, omega arith)
        go (no l) (no m) = inr (none_here (λ t h e. let no : ⊥ = omega arith in no))

module _ {g : Graph} {table₀ table table' : List ℤ} where
  tables_agree : RowsFilled g g.events table → OthersKept g.events g.events table₀ table →
      RowsFilled g g.events table' → OthersKept g.events g.events table₀ table' → table ≡ table'
  tables_agree f o f' o' = ext_get_or (pos 0) table table' (o.same_length ∙ sym o'.same_length) (λ i l. each i)
    where
      inside : (i : ℕ) → Inside g.events g.events i → at table i ≡ at table' i
      inside i (s, t, hs, ht, e) =
          subst (λ (j : ℕ). at table j ≡ at table' j) (sym e) (separation_unique ((f.row s hs).each t ht) ((f'.row s hs).each t ht))

      each : (i : ℕ) → at table i ≡ at table' i
      each i = ⊎_elim (inside i) (λ none. o.other i none ∙ sym (o'.other i none)) (placed g.events g.events i)

pub table_unique : {g : Graph} {table₀ : List ℤ} (x y : Result Unit Refusal) {table table' : List ℤ} → TableAnswered g table₀ x table → TableAnswered g table₀ y table' → (x ≡ y) × (table ≡ table')
table_unique {g} {table₀} x y {table} {table'} a b = (same_result x y same.0 same.1 (λ _ _ _ _. refl), go (ℕ_discrete (number_in x) 0))
  where
    same : (number_in x ≡ number_in y) × (place_in x ≡ place_in y)
    same = table_verdict_unique g table₀ _ _ _ _ a.verdict b.verdict

    go : Dec (number_in x ≡ 0) → table ≡ table'
    go (yes e) =
        let f = sym same.0 ∙ e in
        tables_agree (a.filled e) (a.others e) (b.filled f) (b.others f)
    go (no n) = a.kept n ∙ sym (b.kept (λ f. n (same.0 ∙ f)))
