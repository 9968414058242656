-- How large the numbers of paths and of their sets can be, from what they mean: each belongs to a path, and a path has fewer rules than there are events.
--     most_sum_within                  where each most delay lies within b, the sum of a path lies within b times its number of rules
--     LimitWithin b c, PairWithin b c q   a limit lies within b, if it is a number; l and w of q within b and c
--     m_within                        m lies within b × n, where there are at most n + 1 events
--     pair_within                     so does the l of a path's pair, and its w, if it is a number, within twice that
--     closed_numbered                 a set that covers the pairs of the paths from an event has numbers as its l
--     closed_own                      each pair of a set that closes a family is one of the family, if its l is a number
--     closed_paths                    so each pair of a set that closes the pairs of paths is the pair of a path
--     closed_within                   and its numbers are as small
-- Assumes nothing.
use mathlib.Core.Path.{◌≡◌, refl, sym, ap, subst, ◌∙◌}
use mathlib.Core.Logic.{◌⊎◌, inl, inr}
use mathlib.Core.List.{List}
use Prim.Native.Nat.{ℕ, suc, ◌+◌, ◌*◌, ◌<◌, ◌≤◌}
use native.Mathlib.Nat.{mul-suc, mul-le-mul_left}
use native.Mathlib.Omega.{arith}
use lib.IntN.{ℤ, pos}
use Rattle.integers.specs.Within.{Within}
use Rattle.integers.proofs.Integer.{linear, negation}
use Rattle.integers.proofs.Word.{within_sum, within_wider, within_negation}
use Rattle.graphs.specs.Graph.{Graph, rules, target, most}
use Rattle.graphs.specs.Path.{Path, stay, step, steps}
use Rattle.graphs.specs.Limits.{DelaysKept, SoundGraph}
use Rattle.graphs.proofs.Paths.{least_sum_within}
use Rattle.graphs.proofs.Rank.{short_path}
use Rattle.executions.specs.Steps.{M}
use Rattle.sets.specs.Limit.{Limit, number, unlimited, numbers, under, ◌+ᴸ◌, lesser}
use Rattle.sets.specs.Pair.{Pair, pair, Dominates}
use Rattle.sets.specs.Set.{◌∈◌, Dominated}
use Rattle.sets.specs.Family.{Family, Covers, Closes}
use Rattle.sets.proofs.Limits.{
  ≤ᴸ-refl,
  ≤ᴸ-of,
  ≤ᴸ-trans,
  ≤ᴸ-antisym,
  <ᴸ-≤ᴸ,
  Compared,
  at_most,
  above,
  compared,
  number_same,
  not_number,
  lesser_left,
  lesser_right,
  lesser_greatest,
}
use Rattle.sets.proofs.Pairs.{pair_same, dominates_trans}
use Rattle.sets.proofs.Sets.{pruned_apart}
use Rattle.paths.specs.Cap.{CapOf, at_m, no_m, Caps}
use Rattle.paths.specs.PathPair.{path_pair, PathPairs}
use Rattle.paths.proofs.PathPairs.{most_sum, path_pair_number}

pub most_sum_within :
    {g : Graph} {b : ℕ} → ((i : ℕ) → i < rules g → Within b (most g i))
    → {u v : ℕ} (p : Path g u v) → Within (b * steps p) (most_sum p)
most_sum_within {b = b} within stay = record { above = omega (linear, negation (pos (b * 0))); below = omega linear }
most_sum_within {b = b} within (step i h e f p) =
    within_wider (omega (arith, mul-suc b (steps p))) (within_sum (within i h) (most_sum_within within p))

-- ---- a pair of a set that closes a family

pub closed_own : {T : List Pair} {P : Family} → Closes T P → (q : Pair) → q ∈ T → (a : ℤ) → q.l ≡ number a → P a q.w
closed_own {T} {P} closes q m a e =
    let (l, w, is, far, high) = closes.covers.approached q m a (≤ᴸ-of (sym e)) in
    let d : Dominated T (pair (number l) w) = closes.covers.bound l w is in
    let over : Dominates (pair (number l) w) q = record { l_below = ≤ᴸ-trans (≤ᴸ-of e) (numbers a l far); w_below = high } in
    let same : q ≡ d.by = pruned_apart closes.ordered q d.by m d.among (dominates_trans d.dominates over) in
    let back : Dominates q (pair (number l) w) = subst (λ (x : Pair). Dominates x (pair (number l) w)) (sym same) d.dominates in
    let l-same : l ≡ a = number_same (≤ᴸ-antisym (≤ᴸ-trans back.l_below (≤ᴸ-of e)) (numbers a l far)) in
    let w-same : w ≡ q.w = ≤ᴸ-antisym back.w_below high in
    subst (λ (x : ℤ). P x q.w) l-same (subst (P l) w-same is)

-- ---- sizes

-- a limit that is a number within b
pub record LimitWithin (b : ℕ) (c : Limit) : Type 0 where
  pub within : (a : ℤ) → c ≡ number a → Within b a

unlimited_within : (b : ℕ) → LimitWithin b unlimited
unlimited_within b = record { within = λ a e. absurd (not_number e) }

number_within : {b : ℕ} {a : ℤ} → Within b a → LimitWithin b (number a)
number_within {b} h = record { within = λ a e. subst (Within b) (number_same e) h }

limit_wider : {a b : ℕ} {c : Limit} → a ≤ b → LimitWithin a c → LimitWithin b c
limit_wider l h = record { within = λ a e. within_wider l (h.within a e) }

limit_sum : {a b : ℕ} (c : Limit) {x : ℤ} → LimitWithin a c → Within b x → LimitWithin (a + b) (c +ᴸ number x)
limit_sum (number y) h k = number_within (within_sum (h.within y refl) k)
limit_sum {a} {b} unlimited h k = unlimited_within (a + b)

-- the lesser of two limits is one of them
lesser_one : (c d : Limit) → (lesser c d ≡ c) ⊎ (lesser c d ≡ d)
lesser_one c d = by (compared c d)
  where
    by : Compared c d → (lesser c d ≡ c) ⊎ (lesser c d ≡ d)
    by (at_most k) = inl (≤ᴸ-antisym (lesser_left c d) (lesser_greatest (≤ᴸ-refl c) k))
    by (above k) = inr (≤ᴸ-antisym (lesser_right c d) (lesser_greatest (<ᴸ-≤ᴸ k) (≤ᴸ-refl d)))

limit_lesser : {b : ℕ} (c d : Limit) → LimitWithin b c → LimitWithin b d → LimitWithin b (lesser c d)
limit_lesser {b} c d h k = by (lesser_one c d)
  where
    by : (lesser c d ≡ c) ⊎ (lesser c d ≡ d) → LimitWithin b (lesser c d)
    by (inl e) = subst (LimitWithin b) (sym e) h
    by (inr e) = subst (LimitWithin b) (sym e) k

pub record PairWithin (b c : ℕ) (q : Pair) : Type 0 where
  pub l_within : LimitWithin b q.l
  pub w_within : LimitWithin c q.w

module _ {g : Graph} (sound : SoundGraph g) {b n : ℕ} (few : g.events ≤ suc n) (delays : (i : ℕ) → i < rules g → DelaysKept b g i) where
  -- b times the rules of a path to an event
  path_short : {u v : ℕ} (p : Path g u v) → v < g.events → b * steps p ≤ b * n
  path_short p l = mul-le-mul_left b (omega (arith, short_path g sound.ends sound.acyclic p l))

  pub m_within : {s v : ℕ} {x : ℤ} → s < g.events → M g s v x → Within (b * n) x
  m_within {s} {v} hs h =
      let (p, e) = h.reached in
      subst (Within (b * n)) e (within_negation (within_wider (path_short p hs) (least_sum_within (λ i l. (delays i l).least_within) p)))

  sum_within : {u v : ℕ} (p : Path g u v) → v < g.events → Within (b * n) (most_sum p)
  sum_within p l = within_wider (path_short p l) (most_sum_within (λ i l. (delays i l).most_within) p)

  cap_within : {s v : ℕ} {c : Limit} → s < g.events → CapOf g s v c → LimitWithin (b * n) c
  cap_within hs (at_m x h) = number_within (m_within hs h)
  cap_within hs (no_m none) = unlimited_within (b * n)

  module _ {s t : ℕ} (hs : s < g.events) (ht : t < g.events) {cap : ℕ → Limit} (caps : Caps g s cap) where
    w_small : {v : ℕ} (p : Path g v t) → LimitWithin (b * n + b * n) (path_pair cap p).w
    w_small stay = unlimited_within (b * n + b * n)
    w_small (step i h e f p) =
        subst (λ (x : Limit). LimitWithin (b * n + b * n) (lesser (cap (target g i) +ᴸ x) (path_pair cap p).w))
        (ap (λ (q : Pair). q.l) (sym (path_pair_number cap p)))
        (limit_lesser (cap (target g i) +ᴸ number (most_sum p)) (path_pair cap p).w
        (limit_sum (cap (target g i)) (cap_within hs (caps.each (target g i) (sound.ends i h).target_known)) (sum_within p ht))
        (w_small p))

    pub pair_within : {v : ℕ} (p : Path g v t) → PairWithin (b * n) (b * n + b * n) (path_pair cap p)
    pair_within p =
        record {
          l_within = subst (LimitWithin (b * n)) (ap (λ (q : Pair). q.l) (sym (path_pair_number cap p))) (number_within (sum_within p ht));
          w_within = w_small p;
        }

    module _ {v : ℕ} {T : List Pair} where
      -- no path has an l above b × n, so no pair has an unlimited one
      pub closed_numbered : Covers T (PathPairs g cap t v) → (q : Pair) → q ∈ T → (a : ℤ) × (q.l ≡ number a)
      closed_numbered covers q m = by q.l refl
        where
          by : (c : Limit) → q.l ≡ c → (a : ℤ) × (q.l ≡ number a)
          by (number a) e = (a, e)
          by unlimited e =
              let (l, w, (p, same), far, high) = covers.approached q m (pos (suc (b * n))) (rw e (under (number (pos (suc (b * n)))))) in
              let small : Within (b * n) l = (pair_within p).l_within.within l (ap (λ (x : Pair). x.l) same) in
              absurd (let no : ⊥ = omega (linear, small.below, far) in no)

      module _ (closes : Closes T (PathPairs g cap t v)) where
        pub closed_paths : (q : Pair) → q ∈ T → (p : Path g v t) × (path_pair cap p ≡ q)
        closed_paths q m =
            let (a, e) = closed_numbered closes.covers q m in
            let (p, same) = closed_own closes q m a e in
            (p, same ∙ pair_same (sym e) refl)

        pub closed_within : (q : Pair) → q ∈ T → PairWithin (b * n) (b * n + b * n) q
        closed_within q m =
            let (p, same) = closed_paths q m in
            subst (PairWithin (b * n) (b * n + b * n)) same (pair_within p)
