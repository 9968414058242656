-- Laws of caps: m as a limit, found from the caps of the targets of an event's rules.
--     m_unique, cap_unique   an event has one m and one cap
--     cap_m               a cap that is a number is m
--     path_cap            an event with a path to s has an m
--     cap_at_s            the cap of s is 0
--     cap_ahead_lem           the cap of another event is the least (cap of target − d) over the rules out of it
--     least_out_exists, least_out_unique    such a least limit is there, and it is one
--     caps_exist          so a sound graph has caps, whatever order its events stand in; a number that is no event has one too
-- The argument for cap_ahead_lem is that of m: a path from v to s has a first rule, and goes on from its target. For caps_exist one finds the caps of the
-- events with a rank of at least n − k, for k = 0, 1, and so on: the targets of an event's rules have higher ranks. Assumes nothing.
use mathlib.Core.Path.{◌≡◌, refl, sym, ap, subst}
use mathlib.Core.Logic.{◌⊎◌, inl, inr}
use Prim.Native.Nat.{ℕ, zero, suc, ◌+◌, ◌<◌, ◌≤◌}
use native.Mathlib.Decide.{ℕ_discrete, dec_lt}
use native.Mathlib.Omega.{arith}
use lib.IntN.{ℤ, pos, neg_ℤ, ◌+ℤ◌}
use lib.Signed.{◌≤ℤ◌}
use Rattle.integers.proofs.Integer.{linear, sum, negation}
use Rattle.sequences.proofs.Below.{below_next}
use Rattle.graphs.specs.Graph.{Graph, rules, source, target, least}
use Rattle.graphs.specs.Path.{Path, stay, step, least_sum, HasCycle}
use Rattle.graphs.specs.Limits.{SoundGraph}
use Rattle.graphs.proofs.Paths.{FirstRule, no_first, first, first_rule, acyclic_stays}
use Rattle.graphs.proofs.Rank.{rank_of}
use Rattle.executions.specs.Steps.{M}
use Rattle.sets.specs.Limit.{Limit, number, unlimited, ◌≤ᴸ◌, numbers, under, ◌+ᴸ◌}
use Rattle.sets.proofs.Limits.{≤ᴸ-refl, ≤ᴸ-trans, ≤ᴸ-antisym, <ᴸ-≤ᴸ, Compared, at_most, above, compared, number_≤, number_same, not_number}
use Rattle.paths.specs.Cap.{CapOf, at_m, no_m}
use Rattle.paths.specs.Parts.Turn.{LeastOut}

-- ---- one cap

pub m_unique : {g : Graph} {s v : ℕ} {x y : ℤ} → M g s v x → M g s v y → x ≡ y
m_unique {x = x} {y} h k =
    let (p, e) = h.reached in
    let (q, f) = k.reached in
    omega (linear, h.bound q, k.bound p)

pub cap_unique : {g : Graph} {s v : ℕ} {c d : Limit} → CapOf g s v c → CapOf g s v d → c ≡ d
cap_unique (at_m x h) (at_m y k) = ap number (m_unique h k)
cap_unique (at_m x h) (no_m none) = absurd (none h.reached.0)
cap_unique (no_m none) (at_m y k) = absurd (none k.reached.0)
cap_unique (no_m none) (no_m none') = refl

pub cap_m : {g : Graph} {s v : ℕ} {x : ℤ} → CapOf g s v (number x) → M g s v x
cap_m (at_m x h) = h

pub path_cap : {g : Graph} {s v : ℕ} {c : Limit} → Path g v s → CapOf g s v c → (x : ℤ) × M g s v x × (c ≡ number x)
path_cap p (at_m x h) = (x, h, refl)
path_cap p (no_m none) = absurd (none p)

-- ---- one event's turn

pub cap_at_s : {g : Graph} {s v : ℕ} → (HasCycle g → ⊥) → v ≡ s → CapOf g s v (number (pos 0))
cap_at_s {g} {s} acyclic e = subst (λ (x : ℕ). CapOf g s x (number (pos 0))) (sym e) (at_m (pos 0) empty)
  where
    empty : M g s s (pos 0)
    empty = record { reached = (stay, refl); bound = λ p. omega (linear, negation (least_sum p), (acyclic_stays acyclic p).1) }

-- m of a rule's target, less its least delay, for each path that begins with the rule; and a path that reaches it
module _ {g : Graph} {s : ℕ} where
  by_rule : {c : Limit} (i : ℕ) → CapOf g s (target g i) c → (q : Path g (target g i) s)
      → (c +ᴸ number (neg_ℤ (least g i))) ≤ᴸ number (neg_ℤ (least g i +ℤ least_sum q))
  by_rule i (at_m x h) q =
      numbers (x +ℤ neg_ℤ (least g i)) (neg_ℤ (least g i +ℤ least_sum q))
      (omega (
        linear,
        h.bound q,
        sum x (neg_ℤ (least g i)),
        negation (least g i),
        negation (least_sum q),
        sum (least g i) (least_sum q),
        negation (least g i +ℤ least_sum q),
      ))
  by_rule i (no_m none) q = absurd (none q)

  reached_by : {v : ℕ} {c : Limit} (i : ℕ) → i < rules g → source g i ≡ v → CapOf g s (target g i) c → (x : ℤ) → c +ᴸ number (neg_ℤ (least g i)) ≡ number x
      → (p : Path g v s) × (neg_ℤ (least_sum p) ≡ x)
  reached_by i l out (at_m y h) x e =
      let (q, f) = h.reached in
      let z : y +ℤ neg_ℤ (least g i) ≡ x = number_same e in (
        step i l out refl q,
        omega (
          linear,
          z,
          f,
          sum y (neg_ℤ (least g i)),
          negation (least g i),
          negation (least_sum q),
          sum (least g i) (least_sum q),
          negation (least g i +ℤ least_sum q),
        ),
      )
  reached_by i l out (no_m none) x e = absurd (not_number e)

  module _ {v : ℕ} (cap : ℕ → Limit) (other : v ≡ s → ⊥)
      (targets : (i : ℕ) → i < rules g → source g i ≡ v → CapOf g s (target g i) (cap (target g i))) where
    pub cap_ahead_lem : (c : Limit) → LeastOut g v (λ i. cap (target g i) +ᴸ number (neg_ℤ (least g i))) c → CapOf g s v c
    cap_ahead_lem (number x) h = at_m x (record { reached = path h.reached; bound = λ p. at_least p (first_rule p) })
      where
        path : (number x ≡ unlimited) ⊎ ((i : ℕ) × (i < rules g) × (source g i ≡ v) × (cap (target g i) +ᴸ number (neg_ℤ (least g i)) ≡ number x))
            → (p : Path g v s) × (neg_ℤ (least_sum p) ≡ x)
        path (inl e) = absurd (not_number (sym e))
        path (inr (i, l, out, e)) = reached_by i l out (targets i l out) x e

        at_least : (p : Path g v s) → FirstRule g v s p → x ≤ℤ neg_ℤ (least_sum p)
        at_least p (no_first same none zero-sum) = absurd (other same)
        at_least p (first i l out q one_more its-sum) =
            let under : x ≤ℤ neg_ℤ (least g i +ℤ least_sum q) = number_≤ (≤ᴸ-trans (h.bound i l out) (by_rule i (targets i l out) q)) in
            omega (linear, under, its-sum, negation (least_sum p), negation (least g i +ℤ least_sum q))
    cap_ahead_lem unlimited h = no_m (λ p. never p (first_rule p))
      where
        never : (p : Path g v s) → FirstRule g v s p → ⊥
        never p (no_first same none zero-sum) = other same
        never p (first i l out q one_more its-sum) =
            not_number (≤ᴸ-antisym (≤ᴸ-trans (h.bound i l out) (by_rule i (targets i l out) q)) (under (number (neg_ℤ (least g i +ℤ least_sum q)))))

-- ---- there is a least

pub least_out_unique : {g : Graph} {v : ℕ} {f : ℕ → Limit} {c d : Limit} → LeastOut g v f c → LeastOut g v f d → c ≡ d
least_out_unique {g} {v} {f} {c} {d} h k = ≤ᴸ-antisym (not_above h k) (not_above k h)
  where
    not_above : {c d : Limit} → LeastOut g v f c → LeastOut g v f d → c ≤ᴸ d
    not_above {c} {d} h k = by k.reached
      where
        by : (d ≡ unlimited) ⊎ ((i : ℕ) × (i < rules g) × (source g i ≡ v) × (f i ≡ d)) → c ≤ᴸ d
        by (inl e) = subst (λ (x : Limit). c ≤ᴸ x) (sym e) (under c)
        by (inr (i, l, out, e)) = subst (λ (x : Limit). c ≤ᴸ x) e (h.bound i l out)

-- the least over the rules below r
record LeastBelow (g : Graph) (v : ℕ) (f : ℕ → Limit) (r : ℕ) (c : Limit) : Type 0 where
  pub reached : (c ≡ unlimited) ⊎ ((i : ℕ) × (i < r) × (source g i ≡ v) × (f i ≡ c))
  pub bound : (i : ℕ) → i < r → source g i ≡ v → c ≤ᴸ f i

module _ (g : Graph) (v : ℕ) (f : ℕ → Limit) where
  least_more : (r : ℕ) {c : Limit} → LeastBelow g v f r c → Dec (source g r ≡ v) → Compared c (f r) → (d : Limit) × LeastBelow g v f (suc r) d
  least_more r {c} h out t = by out t
    where
      later : (c ≡ unlimited) ⊎ ((i : ℕ) × (i < r) × (source g i ≡ v) × (f i ≡ c))
          → (c ≡ unlimited) ⊎ ((i : ℕ) × (i < suc r) × (source g i ≡ v) × (f i ≡ c))
      later (inl e) = inl e
      later (inr (i, l, o, e)) = inr (i, omega arith, o, e)

      by : Dec (source g r ≡ v) → Compared c (f r) → (d : Limit) × LeastBelow g v f (suc r) d
      by (no n) t = (c, record { reached = later h.reached; bound = below_next (λ i. source g i ≡ v → c ≤ᴸ f i) r h.bound (λ e. absurd (n e)) })
      by (yes e) (at_most k) = (c, record { reached = later h.reached; bound = below_next (λ i. source g i ≡ v → c ≤ᴸ f i) r h.bound (λ _. k) })
      by (yes e) (above k) = (
        f r,
        record {
          reached = inr (r, omega arith, e, refl);
          bound = below_next (λ i. source g i ≡ v → f r ≤ᴸ f i) r (λ i l o. ≤ᴸ-trans (<ᴸ-≤ᴸ k) (h.bound i l o)) (λ _. ≤ᴸ-refl (f r));
        },
      )

  least_below : (r : ℕ) → (c : Limit) × LeastBelow g v f r c
  least_below zero = (unlimited, record { reached = inl refl; bound = λ i l. absurd (let no : ⊥ = omega arith in no) })
  least_below (suc r) = let (c, h) = least_below r in least_more r h (ℕ_discrete (source g r) v) (compared c (f r))

  pub least_out_exists : (c : Limit) × LeastOut g v f c
  least_out_exists = let (c, h) = least_below (rules g) in (c, record { reached = h.reached; bound = h.bound })

-- ---- all caps

module _ {g : Graph} (sound : SoundGraph g) (s : ℕ) where
  next_cap : (ℕ → Limit) → (v : ℕ) → Dec (v ≡ s) → Limit
  next_cap cap v (yes e) = number (pos 0)
  next_cap cap v (no n) = (least_out_exists g v (λ i. cap (target g i) +ᴸ number (neg_ℤ (least g i)))).0

  next_cap_lem : (cap : ℕ → Limit) (v : ℕ) (d : Dec (v ≡ s)) → ((i : ℕ) → i < rules g → source g i ≡ v → CapOf g s (target g i) (cap (target g i)))
      → CapOf g s v (next_cap cap v d)
  unfolding next_cap
  next_cap_lem cap v (yes e) targets = cap_at_s sound.acyclic e
  next_cap_lem cap v (no n) targets =
      let (c, least-of) = least_out_exists g v (λ i. cap (target g i) +ᴸ number (neg_ℤ (least g i))) in
      cap_ahead_lem cap n targets c least-of

  module _ (rank : ℕ → ℕ) (higher : (i : ℕ) → i < rules g → rank (source g i) < rank (target g i))
      (below : (v : ℕ) → v < g.events → rank v < g.events) where
    cap_from : ℕ → ℕ → Limit
    cap_from zero v = unlimited
    cap_from (suc k) v = next_cap (cap_from k) v (ℕ_discrete v s)

    cap_from_lem : (k v : ℕ) → v < g.events → g.events ≤ rank v + k → CapOf g s v (cap_from k v)
    unfolding cap_from
    cap_from_lem zero v l high = absurd (let no : ⊥ = omega (arith, below v l) in no)
    cap_from_lem (suc k) v l high =
        next_cap_lem (cap_from k) v (ℕ_discrete v s)
        (λ i h out. cap_from_lem k (target g i) (sound.ends i h).target_known (omega (arith, higher i h, ap rank out)))

    -- no rule leaves a number that is no event
    cap_past : (k v : ℕ) → g.events ≤ v → CapOf g s v (cap_from (suc k) v)
    unfolding cap_from
    cap_past k v past =
        next_cap_lem (cap_from k) v (ℕ_discrete v s) (λ i h out. absurd (let known = (sound.ends i h).source_known in let no : ⊥ = omega (arith, known, out) in no))

    cap_at : (v : ℕ) → Dec (v < g.events) → CapOf g s v (cap_from (suc g.events) v)
    cap_at v (yes l) = cap_from_lem (suc g.events) v l (omega arith)
    cap_at v (no n) = cap_past g.events v (omega arith)

  pub caps_exist : (cap : ℕ → Limit) × ((v : ℕ) → CapOf g s v (cap v))
  caps_exist =
      let (rank, higher, below) = rank_of g sound.ends sound.acyclic in
      (cap_from rank higher below (suc g.events), λ v. cap_at rank higher below v (dec_lt v g.events))
