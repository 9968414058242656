-- Laws of the pair of a path.
--     most_sum p                       the sum of the most delays on p
--     path_pair_number                 the l of a path's pair is that number
--     path_pair_join, path_pair_along   the pair of one path after another is the two pairs composed; and with one rule more at the end
--     FirstPair, first_pair           the pair of a path is the unit, at the target, or that of a rule and then of a path from the rule's target
-- Assumes nothing.
use mathlib.Core.Path.{◌≡◌, refl, sym, ap, subst, ◌∙◌}
use Prim.Native.Nat.{ℕ, ◌<◌}
use lib.IntN.{ℤ, pos, ◌+ℤ◌}
use Rattle.graphs.specs.Graph.{Graph, rules, source, target, most}
use Rattle.graphs.specs.Path.{Path, stay, step}
use Rattle.graphs.proofs.Paths.{join, along}
use Rattle.sets.specs.Limit.{Limit, number, ◌+ᴸ◌}
use Rattle.sets.specs.Pair.{Pair, pair, compose, unit}
use Rattle.sets.proofs.Pairs.{pair_same, compose_assoc, unit_compose, compose_unit}
use Rattle.paths.specs.PathPair.{rule_pair, path_pair}

abbrev pub most_sum : {g : Graph} {u v : ℕ} → Path g u v → ℤ
most_sum stay = pos 0
most_sum {g} (step i h e f p) = most g i +ℤ most_sum p

module _ {g : Graph} (cap : ℕ → Limit) where
  pub path_pair_join : {u v w : ℕ} (p : Path g u v) (q : Path g v w) → path_pair cap (join p q) ≡ compose (path_pair cap p) (path_pair cap q)
  path_pair_join stay q = sym (unit_compose (path_pair cap q))
  path_pair_join (step i h e f p) q =
      ap (compose (rule_pair g cap i)) (path_pair_join p q) ∙ sym (compose_assoc (rule_pair g cap i) (path_pair cap p) (path_pair cap q))

  pub path_pair_along : {u v w : ℕ} (p : Path g u v) (i : ℕ) (h : i < rules g) (e : source g i ≡ v) (f : target g i ≡ w)
      → path_pair cap (along p i h e f) ≡ compose (path_pair cap p) (rule_pair g cap i)
  path_pair_along p i h e f = path_pair_join p (step i h e f stay) ∙ ap (compose (path_pair cap p)) (compose_unit (rule_pair g cap i))

  pub path_pair_number : {u v : ℕ} (p : Path g u v) → path_pair cap p ≡ pair (number (most_sum p)) (path_pair cap p).w
  path_pair_number stay = refl
  path_pair_number (step i h e f p) = pair_same (ap (λ (q : Pair). number (most g i) +ᴸ q.l) (path_pair_number p)) refl

-- ---- its first rule

pub data FirstPair (g : Graph) (cap : ℕ → Limit) (t v : ℕ) (q : Pair) : Type 0 where
  no_rule : v ≡ t → q ≡ unit → FirstPair g cap t v q
  one_rule : (i : ℕ) → i < rules g → source g i ≡ v → (p : Path g (target g i) t) → q ≡ compose (rule_pair g cap i) (path_pair cap p) → FirstPair g cap t v q

pub first_pair : {g : Graph} (cap : ℕ → Limit) {t v : ℕ} (p : Path g v t) → FirstPair g cap t v (path_pair cap p)
first_pair cap stay = no_rule refl refl
first_pair {g} cap {t} {v} (step i h e f p) =
    subst (λ (w : ℕ). (q : Path g w t) → FirstPair g cap t v (compose (rule_pair g cap i) (path_pair cap q))) f (λ q. one_rule i h e q refl) p
