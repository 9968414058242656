-- The walk through the rules into v, with the greatest of what they bring so far: f i is what rule i brings.
--     Best ts f v e x     the walk stands at e; a rule into v brings x, and no passed rule brings more
--     first_rule          a rule leads into v, so that heads[v] is not 0
--     best_start          after the first rule the walk stands at the next, and x is what the first brings
--     best_step           once rule i is passed: the greater of what it brings and x
--     best_end            at 0 it is the greatest of all
--     rule_into           the rule at which a walk stands leads into v
-- Assumes nothing.
use mathlib.Core.Path.{◌≡◌, refl, subst, sym, ◌∙◌}
use mathlib.Core.Logic.{⊎_elim}
use mathlib.Core.List.{List}
use Prim.Native.Nat.{ℕ, suc, ◌<◌, ◌≤◌}
use native.Mathlib.Decide.{dec_le}
use native.Mathlib.Omega.{arith}
use lib.IntN.{ℤ}
use lib.Signed.{◌≤ℤ◌}
use lib.ListN.{length, get_or}
use Rattle.integers.proofs.Integer.{linear}
use Rattle.graphs.specs.Graph.{graph_of, Greatest}
use Rattle.analysis.specs.Parts.Chains.{Chained}
use Rattle.analysis.specs.Parts.Latest.{Greater, Arrivals}
use Rattle.analysis.proofs.Walk.{Walk, walk_start, walk_step, walk_end, walk_map}

pub record Best (ts : List ℕ) (f : ℕ → ℤ) (v e : ℕ) (x : ℤ) : Type 0 where
  pub reached : (i : ℕ) × (i < length ts) × (get_or ts i 0 ≡ v) × (f i ≡ x)
  pub walk : Walk ts v e (λ i. f i ≤ℤ x)

module _ (ts heads nexts : List ℕ) (chained : Chained ts heads nexts) (f : ℕ → ℤ) (v : ℕ) where
  pub best_start : (i : ℕ) → v < length heads → get_or heads v 0 ≡ suc i → (x : ℤ) → x ≡ f i → Best ts f v (get_or nexts i 0) x
  best_start i l is x same =
      let w : Walk ts v (suc i) (λ j. f j ≤ℤ x) = subst (λ (y : ℕ). Walk ts v y (λ j. f j ≤ℤ x)) is (walk_start ts heads nexts chained v _ l) in
      record { reached = (i, w.within, w.hit i refl, sym same); walk = walk_step ts heads nexts chained v _ i w (omega linear) }

  pub best_step : (e i : ℕ) (x y z : ℤ) → Best ts f v e x → e ≡ suc i → y ≡ f i → Greater x y z → Best ts f v (get_or nexts i 0) z
  best_step e i x y z b same is g =
      let left : x ≤ℤ z = g.left in
      let right : y ≤ℤ z = g.right in
      let w : Walk ts v (suc i) (λ j. f j ≤ℤ z) =
      walk_map ts v (suc i) (λ j. f j ≤ℤ x) (λ j. f j ≤ℤ z) (λ j h. omega linear) (subst (λ (k : ℕ). Walk ts v k (λ j. f j ≤ℤ x)) same b.walk) in
      record {
        reached =
            ⊎_elim
            (λ a. (b.reached.0, b.reached.1, b.reached.2, b.reached.3 ∙ sym a))
            (λ a. (i, w.within, w.hit i refl, sym (a ∙ is)))
            g.one;
        walk = walk_step ts heads nexts chained v _ i w (omega linear);
      }

pub best_end :
    (n : ℕ) (ss ts : List ℕ) (ds Ds : List ℤ) (f : ℕ → ℤ) (v e : ℕ) (x : ℤ) → length ts ≡ length ss → e ≡ 0 → Best ts f v e x → Greatest (graph_of n ss ts ds Ds) v f x
best_end n ss ts ds Ds f v e x match at_end b =
    let w : Walk ts v 0 (λ i. f i ≤ℤ x) = subst (λ (z : ℕ). Walk ts v z (λ i. f i ≤ℤ x)) at_end b.walk in
    record {
      reached = (b.reached.0, (omega (arith, b.reached.1)), b.reached.2, b.reached.3);
      bound = λ i h to. walk_end ts v _ w i (omega arith) to;
    }

-- ---- the rules into v

module _ (n : ℕ) (ss ts heads nexts : List ℕ) (Ds us : List ℤ) (depth : List ℕ) (v : ℕ) (a : Arrivals n ss ts heads nexts Ds us depth v) where
  pub first_rule : 0 < get_or heads v 0
  first_rule = by (dec_le (get_or heads v 0) a.some.0)
    where
      by : Dec (get_or heads v 0 ≤ a.some.0) → 0 < get_or heads v 0
      by (yes h) = absurd ((a.chains.chained.heads_last v (omega (arith, a.known, a.chains.heads_room))).none a.some.0 h a.some.1 a.some.2)
      by (no h) = omega arith

  -- the rule at which a walk stands leads into v
  pub rule_into : {e : ℕ} {Q : ℕ → Type 0} → Walk ts v e Q → (i : ℕ) → e ≡ suc i → (i < length ts) × (get_or ts i 0 ≡ v)
  rule_into w i is = (omega (arith, w.within), w.hit i is)
