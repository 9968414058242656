-- Every event is reached from s by at most n − 1 arcs that the latest gaps meet exactly.
--     Tight g s x k v      k arcs lead from s to v, each met exactly by x
--     TightWithin g s x k v   so does some number of arcs up to k
--     tight_within         the latest gaps have such arcs for every event, at most n − 1
-- The idea. Collect the events that are so reached, s first. While some event is left out, an arc that is met exactly leads from a collected event to one that
-- is left out: else the numbers of all that are left out could be raised by one and every arc would still be met, though no hard times are later. So one
-- event is added at a time, with one arc more at most than any before it, and after n − 1 times none is left out. Assumes nothing.
use mathlib.Core.Path.{◌≡◌, refl, sym, subst, ◌∙◌}
use mathlib.Core.Bool.{Bool, true, false, true≢false}
use mathlib.Core.Logic.{◌⊎◌, inl, inr}
use Prim.Native.Nat.{ℕ, zero, suc, ◌+◌, ◌-◌, ◌<◌, ◌≤◌}
use native.Mathlib.Decide.{ℕ_discrete}
use native.Mathlib.Omega.{arith}
use lib.IntN.{ℤ, pos, ◌+ℤ◌, ◌-ℤ◌}
use lib.Signed.{◌≤ℤ◌}
use Rattle.integers.proofs.Integer.{P, N, linear, sum, difference}
use Rattle.sequences.specs.Counted.{Counted}
use Rattle.sequences.proofs.Counting.{Leaves, counted_all, counted_less, counted_none, counted_some}
use Rattle.graphs.specs.Graph.{Graph}
use Rattle.graphs.specs.Limits.{SoundGraph}
use Rattle.hardtimes.specs.Parts.Gaps.{Arc, MeetsArcs, LatestGaps}
use Rattle.hardtimes.proofs.Arcs.{hard_of, arc_known, search_arcs, ≤ℤ-dec}

pub data Tight (g : Graph) (s : ℕ) (x : ℕ → ℤ) : ℕ → ℕ → Type 0 where
  here : Tight g s x 0 s
  on : {k a b : ℕ} {w : ℤ} → Tight g s x k a → Arc g a b w → x b ≡ x a +ℤ w → Tight g s x (suc k) b

abbrev pub TightWithin : Graph → ℕ → (ℕ → ℤ) → ℕ → ℕ → Type 0
TightWithin g s x k v = (j : ℕ) × (j ≤ k) × Tight g s x j v

-- ---- a set of numbers with one more

joined : {A : Type 0} → Dec A → Bool → Bool
joined (yes e) b = true
joined (no n) b = b

with_one : (ℕ → Bool) → ℕ → ℕ → Bool
with_one inside w v = joined (ℕ_discrete v w) (inside v)

joined_old : {A : Type 0} (d : Dec A) (b : Bool) → b ≡ true → joined d b ≡ true
unfolding joined
joined_old (yes e) b t = refl
joined_old (no n) b t = t

joined_new : {A : Type 0} (d : Dec A) (b : Bool) → A → joined d b ≡ true
unfolding joined
joined_new (yes e) b a = refl
joined_new (no n) b a = absurd (n a)

joined_not : {A : Type 0} (d : Dec A) (b : Bool) → (A → ⊥) → joined d b ≡ b
unfolding joined
joined_not (yes e) b n = absurd (n e)
joined_not (no _) b n = refl

joined_by : {A : Type 0} (d : Dec A) (b : Bool) → joined d b ≡ true → A ⊎ (b ≡ true)
unfolding joined
joined_by (yes e) b t = inl e
joined_by (no n) b t = inr t

joined_out : {A : Type 0} (d : Dec A) (b : Bool) → joined d b ≡ false → b ≡ false
unfolding joined
joined_out (yes e) b t = absurd (true≢false t)
joined_out (no n) b t = t

bool_cases : (b : Bool) → (b ≡ true) ⊎ (b ≡ false)
bool_cases true = inl refl
bool_cases false = inr refl

module _ {g : Graph} (sound : SoundGraph g) {s : ℕ} (is_event : s < g.events) {x : ℕ → ℤ} (gaps : LatestGaps g s x) where
  -- the events collected after k times, and c left out
  record Collected (k : ℕ) (inside : ℕ → Bool) (c : ℕ) : Type 0 where
    has_s : inside s ≡ true
    reached : (v : ℕ) → inside v ≡ true → TightWithin g s x k v
    out : Counted (λ v. inside v ≡ false) g.events c
    count : c + suc k ≡ g.events

  -- ---- the arc that leads out

  lift : Bool → ℤ
  lift true = pos 0
  lift false = pos 1

  module _ (inside : ℕ → Bool) where
    raised : ℕ → ℤ
    raised v = x v +ℤ lift (inside v)

    -- were every arc still met, an event that is left out could be later
    not_all : inside s ≡ true → (v : ℕ) → v < g.events → inside v ≡ false → MeetsArcs g raised → ⊥
    unfolding raised lift
    not_all has_s v h left_out arcs =
        let s-stays : lift (inside s) ≡ pos 0 = λ i. lift (has_s i) in
        let v-rises : lift (inside v) ≡ pos 1 = λ i. lift (left_out i) in
        omega (
          linear,
          gaps.bound v h (λ u. raised u -ℤ raised 0) (hard_of sound.ends sound.some_event arcs),
          gaps.at_s,
          s-stays,
          v-rises,
          sum (x s) (lift (inside s)),
          sum (x v) (lift (inside v)),
          difference (raised v) (raised 0),
          difference (raised s) (raised 0),
          difference (raised v -ℤ raised 0) (raised s -ℤ raised 0),
        )

    record LeadsOut : Type 0 where
      from : ℕ
      to : ℕ
      weight : ℤ
      arc : Arc g from to weight
      from_inside : inside from ≡ true
      to_outside : inside to ≡ false
      exact : x to ≡ x from +ℤ weight

    leads_out : (a b : ℕ) (w : ℤ) → Arc g a b w → (raised b ≤ℤ (raised a +ℤ w) → ⊥) → LeadsOut
    unfolding raised lift
    leads_out a b w arc fails = by (bool_cases (inside a)) (bool_cases (inside b))
      where
        met : x b ≤ℤ (x a +ℤ w)
        met = gaps.arcs.meets arc

        by : (inside a ≡ true) ⊎ (inside a ≡ false) → (inside b ≡ true) ⊎ (inside b ≡ false) → LeadsOut
        by (inl p) (inr q) =
            let a-stays : lift (inside a) ≡ pos 0 = λ i. lift (p i) in
            let b-rises : lift (inside b) ≡ pos 1 = λ i. lift (q i) in
            let late : P (raised b) + N (raised a +ℤ w) ≤ P (raised a +ℤ w) + N (raised b) → ⊥ = λ l. fails (omega linear) in
            record {
              from = a;
              to = b;
              weight = w;
              arc = arc;
              from_inside = p;
              to_outside = q;
              exact =
                  omega (
                    linear,
                    met,
                    late,
                    a-stays,
                    b-rises,
                    sum (x a) (lift (inside a)),
                    sum (x b) (lift (inside b)),
                    sum (raised a) w,
                    sum (x a) w,
                  );
            }
        by (inl p) (inl q) = absurd (fails (kept (λ i. lift (p i)) (λ i. lift (q i))))
          where
            kept : lift (inside a) ≡ pos 0 → lift (inside b) ≡ pos 0 → raised b ≤ℤ (raised a +ℤ w)
            kept e f = omega (linear, met, e, f, sum (x a) (lift (inside a)), sum (x b) (lift (inside b)), sum (raised a) w, sum (x a) w)
        by (inr p) (inl q) = absurd (fails (kept (λ i. lift (p i)) (λ i. lift (q i))))
          where
            kept : lift (inside a) ≡ pos 1 → lift (inside b) ≡ pos 0 → raised b ≤ℤ (raised a +ℤ w)
            kept e f = omega (linear, met, e, f, sum (x a) (lift (inside a)), sum (x b) (lift (inside b)), sum (raised a) w, sum (x a) w)
        by (inr p) (inr q) = absurd (fails (kept (λ i. lift (p i)) (λ i. lift (q i))))
          where
            kept : lift (inside a) ≡ pos 1 → lift (inside b) ≡ pos 1 → raised b ≤ℤ (raised a +ℤ w)
            kept e f = omega (linear, met, e, f, sum (x a) (lift (inside a)), sum (x b) (lift (inside b)), sum (raised a) w, sum (x a) w)

    way_out : inside s ≡ true → (v : ℕ) → v < g.events → inside v ≡ false → LeadsOut
    way_out has_s v h left_out = by (search_arcs g (λ a b w. raised b ≤ℤ (raised a +ℤ w)) (λ a b w. ≤ℤ-dec (raised b) (raised a +ℤ w)))
      where
        by : ((a b : ℕ) (w : ℤ) → Arc g a b w → raised b ≤ℤ (raised a +ℤ w)) ⊎ ((a : ℕ) × (b : ℕ) × (w : ℤ) × Arc g a b w × (raised b ≤ℤ (raised a +ℤ w) → ⊥)) → LeadsOut
        by (inl all) = absurd (not_all has_s v h left_out (record { meets = λ arc. all _ _ _ arc }))
        by (inr (a, b, w, arc, fails)) = leads_out a b w arc fails

  -- ---- one event at a time

  further : {k : ℕ} {inside : ℕ → Bool} {c : ℕ} → Collected k inside (suc c) → (w : LeadsOut inside) → Collected (suc k) (with_one inside w.to) c
  unfolding with_one
  further {k} {inside} {c} old w =
      let (c', same, fewer) = counted_less w.to leaves old.out in
      record {
        has_s = joined_old (ℕ_discrete s w.to) (inside s) old.has_s;
        reached = λ v t. at v (joined_by (ℕ_discrete v w.to) (inside v) t);
        out = subst (Counted (λ v. with_one inside w.to v ≡ false) g.events) (let e : c' ≡ c = omega arith in e) fewer;
        count = omega (arith, old.count);
      }
    where
      leaves : Leaves (λ v. inside v ≡ false) (λ v. with_one inside w.to v ≡ false) g.events w.to
      leaves =
          record {
            below = (arc_known sound.ends w.arc).1;
            was = w.to_outside;
            gone = λ f. true≢false (sym (joined_new (ℕ_discrete w.to w.to) (inside w.to) refl) ∙ f);
            to = λ v h other f. joined_not (ℕ_discrete v w.to) (inside v) other ∙ f;
            from = λ v h f. joined_out (ℕ_discrete v w.to) (inside v) f;
          }

      step : TightWithin g s x k w.from → TightWithin g s x (suc k) w.to
      step (j, few, t) = (suc j, omega arith, on t w.arc w.exact)

      at : (v : ℕ) → (v ≡ w.to) ⊎ (inside v ≡ true) → TightWithin g s x (suc k) v
      at v (inl e) = subst (TightWithin g s x (suc k)) (sym e) (step (old.reached w.from w.from_inside))
      at v (inr t) = let (j, few, way) = old.reached v t in (j, omega arith, way)

  collect : (c k : ℕ) (inside : ℕ → Bool) → Collected k inside c → (v : ℕ) → v < g.events → TightWithin g s x (g.events - 1) v
  collect zero k inside all v h = by (bool_cases (inside v))
    where
      by : (inside v ≡ true) ⊎ (inside v ≡ false) → TightWithin g s x (g.events - 1) v
      by (inl t) = let (j, few, way) = all.reached v t in (j, omega (arith, all.count), way)
      by (inr f) = absurd (counted_none all.out v h f)
  collect (suc c) k inside some v h =
      let (u, known, left_out) = counted_some some.out (omega arith) in
      let w : LeadsOut inside = way_out inside some.has_s u known left_out in
      collect c (suc k) (with_one inside w.to) (further some w) v h

  s_alone : ℕ → Bool
  s_alone = with_one (λ v. false) s

  first : (c : ℕ) × Collected 0 s_alone c
  unfolding s_alone with_one
  first =
      let (c, same, fewer) = counted_less s leaves (counted_all {P = λ v. false ≡ false} (λ v. refl) g.events) in (
        c,
        record {
          has_s = joined_new (ℕ_discrete s s) false refl;
          reached = λ v t. at v (joined_by (ℕ_discrete v s) false t);
          out = fewer;
          count = omega arith;
        },
      )
    where
      leaves : Leaves (λ v. false ≡ false) (λ v. s_alone v ≡ false) g.events s
      leaves =
          record {
            below = is_event;
            was = refl;
            gone = λ f. true≢false (sym (joined_new (ℕ_discrete s s) false refl) ∙ f);
            to = λ v h other f. joined_not (ℕ_discrete v s) false other;
            from = λ v h f. refl;
          }

      at : (v : ℕ) → (v ≡ s) ⊎ (false ≡ true) → TightWithin g s x 0 v
      at v (inl e) = subst (TightWithin g s x 0) (sym e) (0, omega arith, here)
      at v (inr f) = absurd (true≢false (sym f))

  pub tight_within : (v : ℕ) → v < g.events → TightWithin g s x (g.events - 1) v
  tight_within v h = let (c, one) = first in collect c 0 s_alone one v h
