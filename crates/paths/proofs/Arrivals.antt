-- U, where no code stores it: it exists, and it follows along each rule by the rule's pair.
--     capped_at c a, capped_at_lem      the lesser of cap c and arrival a, and that it is what 01's steps ask
--     capped_lesser                where U is capped by its cap, it is the lesser of the two as a limit
--     u_exists                     a sound graph has a U against every event s
--     u_along                      for a rule i, U(target) is at least the value of the rule's pair at U(source)
--     u_arrives                    and for some rule into an event other than the root it is that value
-- Assumes nothing.
use mathlib.Core.Path.{◌≡◌, refl, sym, ap, subst, ◌∙◌}
use mathlib.Core.Bool.{Bool, true, false, cond}
use mathlib.Core.Logic.{◌⊎◌, inl, inr}
use Prim.Native.Nat.{ℕ, ◌<◌}
use lib.IntN.{ℤ, ◌+ℤ◌}
use lib.Signed.{◌≤ℤ◌, le_z}
use Rattle.integers.proofs.Integer.{linear}
use Rattle.graphs.specs.Graph.{Graph, rules, source, target, most}
use Rattle.graphs.specs.Limits.{SoundGraph}
use Rattle.graphs.proofs.Greatest.{root_has_no_rule}
use Rattle.executions.specs.Steps.{M, Lesser, Capped, with_m, without_m, UOf, U}
use Rattle.executions.proofs.Rounds.{values_settle}
use Rattle.sets.specs.Limit.{Limit, number, unlimited, ◌≤ᴸ◌, numbers, lesser}
use Rattle.sets.specs.Pair.{value}
use Rattle.sets.proofs.Limits.{≤ᴸ-of, ≤ᴸ-trans, ≤ᴸ-antisym, lesser_left, lesser_right, lesser_greatest, lesser_more, ≤ᴸ-refl}
use Rattle.paths.specs.Cap.{CapOf, at_m, no_m, Caps}
use Rattle.paths.specs.PathPair.{rule_pair}
use Rattle.paths.proofs.Caps.{m_unique, path_cap, caps_exist}

-- ---- an arrival, capped

abbrev pub capped_at : Limit → ℤ → ℤ
capped_at (number x) a = cond (le_z x a) x a
capped_at unlimited a = a

pub capped_at_lem : {g : Graph} {s v : ℕ} {c : Limit} → CapOf g s v c → (a : ℤ) → Capped g s v a (capped_at c a)
capped_at_lem {g} {s} {v} (at_m x h) a = with_m x h (by (le_z x a) refl)
  where
    by : (t : Bool) → le_z x a ≡ t → Lesser x a (cond t x a)
    by true e = record { left = omega linear; right = omega linear; one = inl refl }
    by false e = record { left = omega linear; right = omega linear; one = inr refl }
capped_at_lem (no_m none) a = without_m none refl

pub capped_lesser : {g : Graph} {s v : ℕ} {c : Limit} {a y : ℤ} → CapOf g s v c → Capped g s v a y → lesser (number a) c ≡ number y
capped_lesser {a = a} {y} (at_m x h) (with_m x' h' l) =
    let same : x ≡ x' = m_unique h h' in
    ≤ᴸ-antisym (by l.one) (lesser_greatest (numbers y a l.right) (numbers y x (omega (linear, same, l.left))))
  where
    by : (y ≡ x') ⊎ (y ≡ a) → lesser (number a) (number x) ≤ᴸ number y
    by (inl e) = ≤ᴸ-trans (lesser_right (number a) (number x)) (≤ᴸ-of (ap number (m_unique h h' ∙ sym e)))
    by (inr e) = ≤ᴸ-trans (lesser_left (number a) (number x)) (≤ᴸ-of (ap number (sym e)))
capped_lesser (at_m x h) (without_m none e) = absurd (none h.reached.0)
capped_lesser (no_m none) (with_m x' h' l) = absurd (none h'.reached.0)
capped_lesser (no_m none) (without_m none' e) = ap number (sym e)

-- ---- U

module _ {g : Graph} (sound : SoundGraph g) {s : ℕ} where
  pub u_exists : s < g.events → (u : ℕ → ℤ) × U g s u
  u_exists is_event =
      let (cap, caps) = caps_exist sound s in
      let (m, is_m, same) = path_cap (sound.reachable s is_event) (caps 0) in
      let (u, settled) = values_settle sound m (most g) (λ v a. capped_at (cap v) a) in (
        u,
        record {
          root = subst (M g s 0) (sym settled.root) is_m;
          others = λ v l n.
              let a = settled.others v l n in
              record {
                arrival = a.arrival;
                arrival_greatest = a.greatest;
                capped = subst (Capped g s v a.arrival) (sym a.finished) (capped_at_lem (caps v) a.arrival);
              };
        },
      )

  module _ {cap : ℕ → Limit} (caps : Caps g s cap) {u : ℕ → ℤ} (steps : U g s u) where
    u_of : (i : ℕ) → i < rules g → UOf g s u (target g i)
    u_of i l = steps.others (target g i) (sound.ends i l).target_known (root_has_no_rule sound i l)

    pub u_along : (i : ℕ) → i < rules g → value (rule_pair g cap i) (number (u (source g i))) ≤ᴸ number (u (target g i))
    u_along i l =
        let o : UOf g s u (target g i) = u_of i l in
        let reached : (u (source g i) +ℤ most g i) ≤ℤ o.arrival = o.arrival_greatest.bound i l refl in
        ≤ᴸ-trans
        (lesser_more (numbers (u (source g i) +ℤ most g i) o.arrival reached) (≤ᴸ-refl (cap (target g i))))
        (≤ᴸ-of (capped_lesser (caps.each (target g i) (sound.ends i l).target_known) o.capped))

    pub u_arrives : (v : ℕ) → v < g.events → (v ≡ 0 → ⊥)
        → (i : ℕ) × (i < rules g) × (target g i ≡ v) × (value (rule_pair g cap i) (number (u (source g i))) ≡ number (u v))
    u_arrives v l n =
        let o : UOf g s u v = steps.others v l n in
        let (i, h, to, e) = o.arrival_greatest.reached in
        let at_i : lesser (number (u (source g i) +ℤ most g i)) (cap (target g i)) ≡ lesser (number o.arrival) (cap (target g i)) =
        ap (λ (x : ℤ). lesser (number x) (cap (target g i))) e in
        (i, h, to, at_i ∙ ap (λ (x : ℕ). lesser (number o.arrival) (cap x)) to ∙ capped_lesser (caps.each v l) o.capped)
