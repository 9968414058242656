-- Pairs. Document 02, request 7: "a set of pairs (l, w), meaning the greatest of the lesser of x + l and w, where w may be unlimited"; the report's
-- functions of one ordered pair, equations 5 to 7 and 12.
--     Pair              == a pair (l, w) of limits
--     Proper p          == l or w is a number: the two are never both unlimited
--     value p x         == the lesser of x + l and w: what p makes of x
--     compose p q       == p first and then q
--     Dominates q p     == l and w of p are at most those of q, so that p need not be kept beside q
--     Before p q        == p may stand before q in a pruned set: l rises and w falls, strictly
--     unit              == the pair (0, unlimited), which passes everything
-- Assumes nothing.
use Rattle.std.specs.Prelude.{◌≡◌, ℤ, pos}
use Rattle.sets.specs.Limit.{Limit, number, unlimited, ◌≤ᴸ◌, ◌<ᴸ◌, ◌+ᴸ◌, lesser}

pub record Pair : Type 0 where
  pub l : Limit
  pub w : Limit

abbrev pub pair : Limit → Limit → Pair
pair a b = record { l = a; w = b }

pub data Proper (p : Pair) : Type 0 where
  l_number : (a : ℤ) → p.l ≡ number a → Proper p
  w_number : (b : ℤ) → p.w ≡ number b → Proper p

-- report, equation 6: "f(x) = min(x + ℓ, w)". At a number x the value is `value p (number x)`
abbrev pub value : Pair → Limit → Limit
value p x = lesser (x +ᴸ p.l) p.w

-- report, equation 7: "if g = {⟨ℓ1, w1⟩} and h = {⟨ℓ2, w2⟩} then g ∘ h = {⟨ℓ1 + ℓ2, min(w1 + ℓ2, w2)⟩}"
abbrev pub compose : Pair → Pair → Pair
compose p q = record { l = p.l +ᴸ q.l; w = lesser (p.w +ᴸ q.l) q.w }

-- report, pruning rule: "If ℓ1 ≥ ℓ2 and w1 ≥ w2, we do not need to keep around the pair ⟨ℓ2, w2⟩"
pub record Dominates (q p : Pair) : Type 0 where
  pub l_below : p.l ≤ᴸ q.l
  pub w_below : p.w ≤ᴸ q.w

-- report, equation 11: "ℓ1 < ℓ2 < … < ℓn and w1 > w2 > w3 > … > wn", of two pairs
pub record Before (p q : Pair) : Type 0 where
  pub l_rises : p.l <ᴸ q.l
  pub w_falls : q.w <ᴸ p.w

-- the report's "1̄ = {⟨0, ∞⟩}", section 3.9
abbrev pub unit : Pair
unit = record { l = number (pos 0); w = unlimited }
