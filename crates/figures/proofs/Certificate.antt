-- A certificate of a graph that is written out, and the tests of it, which compute.
--     Certificate            the depths, m and U of every event against s, as lists
--     MaybeM                 m(v) in a certificate: a number, or absent where no path leads from v to s
--     keeps_limits b g        the test that counts, ends and delays keep 01's limits
--     keeps_depths g depth    the test of the depths;       Depths g depth     what it says
--     keeps_m g s m           the test of m;                Ms g s m           what it says
--     keeps_u g m u           the test of U;                Us g m u           what it says
--     keeps_schedule g u …    the test of a schedule's two lists
-- For each test stands the law that it says so where it passes. What follows of paths and executions is in Checked.antt. Assumes nothing.
use mathlib.Core.Path.{◌≡◌, refl, sym, ap, subst}
use mathlib.Core.Bool.{Bool, true, false, not, ◌&&◌, ◌||◌}
use mathlib.Core.List.{List}
use mathlib.Core.Logic.{◌⊎◌, inl, inr}
use Prim.Native.Nat.{ℕ, suc, ◌<◌}
use lib.IntN.{ℤ, pos, neg_ℤ, ◌+ℤ◌, ◌-ℤ◌}
use lib.Signed.{◌≤ℤ◌, le_z}
use lib.ListN.{length, get_or}
use lib.Dec.{T, leb, ltb, eqb, leb→le, ltb→lt, eqb→eq, eqb_refl, T_not}
use Rattle.integers.proofs.Integer.{linear, sum, difference}
use Rattle.graphs.specs.Graph.{Graph, rules, source, target, least, most, Greatest}
use Rattle.graphs.specs.Limits.{CountsKept, EndsKept, DelaysKept, Sized}
use Rattle.executions.specs.Steps.{Lesser}
use Rattle.figures.proofs.Tests.{both_pass, one_passes, all_below, any_below, all_pass, some_passes, eq_z, eq_z_passes}

-- ---- the limits

abbrev pub keeps_counts : Graph → Bool
keeps_counts g =
    (leb 1 g.events && leb g.events 1024) &&
    (leb (rules g) 4096 && (eqb (length g.targets) (rules g) && (eqb (length g.leasts) (rules g) && eqb (length g.mosts) (rules g))))

abbrev pub keeps_ends : Graph → ℕ → Bool
keeps_ends g i = ltb (source g i) g.events && ltb (target g i) g.events

abbrev pub keeps_delays : ℕ → Graph → ℕ → Bool
keeps_delays b g i = le_z (neg_ℤ (pos b)) (least g i) && (le_z (least g i) (most g i) && le_z (most g i) (pos b))

abbrev pub keeps_limits : ℕ → Graph → Bool
keeps_limits b g = keeps_counts g && (all_below (rules g) (keeps_ends g) && all_below (rules g) (keeps_delays b g))

counts_kept : (g : Graph) → T (keeps_counts g) → CountsKept g
counts_kept g t =
    let (e, r) = both_pass (leb 1 g.events && leb g.events 1024) _ t in
    let (e₁, e₂) = both_pass (leb 1 g.events) _ e in
    let (r₁, l) = both_pass (leb (rules g) 4096) _ r in
    let (l₁, l₂) = both_pass (eqb (length g.targets) (rules g)) _ l in
    let (l₃, l₄) = both_pass (eqb (length g.leasts) (rules g)) _ l₂ in
    record {
      some_event = leb→le 1 g.events e₁;
      few_events = leb→le g.events 1024 e₂;
      few_rules = leb→le (rules g) 4096 r₁;
      targets_match = eqb→eq (length g.targets) (rules g) l₁;
      leasts_match = eqb→eq (length g.leasts) (rules g) l₃;
      mosts_match = eqb→eq (length g.mosts) (rules g) l₄;
    }

ends_kept : (g : Graph) (i : ℕ) → T (keeps_ends g i) → EndsKept g i
ends_kept g i t =
    let (s, e) = both_pass (ltb (source g i) g.events) _ t in
    record { source_known = ltb→lt (source g i) g.events s; target_known = ltb→lt (target g i) g.events e }

delays_kept : (b : ℕ) (g : Graph) (i : ℕ) → T (keeps_delays b g i) → DelaysKept b g i
delays_kept b g i t =
    let (low, up) = both_pass (le_z (neg_ℤ (pos b)) (least g i)) _ t in
    let (mid, high) = both_pass (le_z (least g i) (most g i)) _ up in
    let above : neg_ℤ (pos b) ≤ℤ least g i = record { le = low } in
    let ordered : least g i ≤ℤ most g i = record { le = mid } in
    let below : most g i ≤ℤ pos b = record { le = high } in
    record {
      least_within = record { above = above; below = omega linear };
      most_within = record { above = omega linear; below = below };
      ordered = ordered;
    }

pub limits_kept : (b : ℕ) (g : Graph) → T (keeps_limits b g) → Sized b g
limits_kept b g t =
    let (counts, each) = both_pass (keeps_counts g) _ t in
    let (ends, delays) = both_pass (all_below (rules g) (keeps_ends g)) _ each in
    record {
      counts = counts_kept g counts;
      ends = λ i l. ends_kept g i (all_pass (rules g) (keeps_ends g) ends i l);
      delays = λ i l. delays_kept b g i (all_pass (rules g) (keeps_delays b g) delays i l);
    }

-- ---- the depths

-- each event that is not left out has a rule that passes
abbrev pub each_event : Graph → (ℕ → Bool) → (ℕ → ℕ → Bool) → Bool
each_event g out p = all_below g.events (λ v. out v || any_below (rules g) (p v))

each_event_lem : (g : Graph) (out : ℕ → Bool) (p : ℕ → ℕ → Bool) → T (each_event g out p) → (v : ℕ) → v < g.events → (T (out v) → ⊥) → (i : ℕ) × (i < rules g) × T (p v i)
each_event_lem g out p t v l in_it = by (one_passes (out v) (any_below (rules g) (p v)) (all_pass g.events (λ w. out w || any_below (rules g) (p w)) t v l))
  where
    by : T (out v) ⊎ T (any_below (rules g) (p v)) → (i : ℕ) × (i < rules g) × T (p v i)
    by (inl left_out) = absurd (in_it left_out)
    by (inr some) = some_passes (rules g) (p v) some

abbrev pub grows_along : Graph → (ℕ → ℕ) → ℕ → Bool
grows_along g depth i = ltb (depth (source g i)) (depth (target g i))

abbrev pub grows_by_one : Graph → (ℕ → ℕ) → ℕ → ℕ → Bool
grows_by_one g depth v i = eqb (target g i) v && eqb (suc (depth (source g i))) (depth v)

-- the root's depth is 0; along each rule the depth grows; and each other event has a rule into it along which it grows by one
abbrev pub keeps_depths : Graph → (ℕ → ℕ) → Bool
keeps_depths g depth =
    eqb (depth 0) 0 &&
    (all_below (rules g) (grows_along g depth) &&
    each_event g (λ v. eqb v 0) (grows_by_one g depth))

-- what the test says
pub record Depths (g : Graph) (depth : ℕ → ℕ) : Type 0 where
  pub root : depth 0 ≡ 0
  pub grows : (i : ℕ) → i < rules g → depth (source g i) < depth (target g i)
  pub by_one : (v : ℕ) → v < g.events → (v ≡ 0 → ⊥) → (i : ℕ) × (i < rules g) × (target g i ≡ v) × (suc (depth (source g i)) ≡ depth v)

pub depths_kept : (g : Graph) (depth : ℕ → ℕ) → T (keeps_depths g depth) → Depths g depth
depths_kept g depth t =
    let (zero-root, each) = both_pass (eqb (depth 0) 0) _ t in
    let (up, one) = both_pass (all_below (rules g) (grows_along g depth)) _ each in
    record {
      root = eqb→eq (depth 0) 0 zero-root;
      grows = λ i l. ltb→lt (depth (source g i)) (depth (target g i)) (all_pass (rules g) (grows_along g depth) up i l);
      by_one =
          λ v l other.
          let (i, k, here) = each_event_lem g (λ w. eqb w 0) (grows_by_one g depth) one v l (λ same. other (eqb→eq v 0 same)) in
          let (into, more) = both_pass (eqb (target g i) v) _ here in
          (i, k, eqb→eq (target g i) v into, eqb→eq (suc (depth (source g i))) (depth v) more);
    }

-- ---- m

pub data MaybeM : Type 0 where
  absent : MaybeM
  m_is : ℤ → MaybeM

abbrev pub is_absent : MaybeM → Bool
is_absent absent = true
is_absent (m_is x) = false

abbrev pub same_m : MaybeM → ℤ → Bool
same_m absent y = false
same_m (m_is x) y = eq_z x y

same_m_lem : (x : MaybeM) (y : ℤ) → T (same_m x y) → x ≡ m_is y
same_m_lem absent y t = absurd t
same_m_lem (m_is x) y t = ap m_is (eq_z_passes x y t)

-- there is an m, and it is at most z
abbrev pub AtMost : MaybeM → ℤ → Type 0
AtMost absent z = ⊥
AtMost (m_is x) z = x ≤ℤ z

-- a path from the rule's target to s, with the rule before it, is one from its source: m(source) ≤ m(target) − d
abbrev pub keeps_rule : MaybeM → ℤ → MaybeM → Bool
keeps_rule x d absent = true
keeps_rule absent d (m_is y) = false
keeps_rule (m_is x) d (m_is y) = le_z (x +ℤ d) y

rule_kept_lem : (x : MaybeM) (d : ℤ) (y : MaybeM) → T (keeps_rule x d y) → (z : ℤ) → AtMost y z → AtMost x (z -ℤ d)
rule_kept_lem x d absent t z h = absurd h
rule_kept_lem absent d (m_is y) t z h = absurd t
rule_kept_lem (m_is x) d (m_is y) t z h =
    let kept : (x +ℤ d) ≤ℤ y = record { le = t } in
    omega (linear, sum x d, difference z d)

-- m(source) is m(target) − d: the rule begins a path that reaches m(source)
abbrev pub tight : MaybeM → ℤ → MaybeM → Bool
tight absent d y = false
tight (m_is x) d absent = false
tight (m_is x) d (m_is y) = eq_z (x +ℤ d) y

tight_passes : (x : ℤ) (d : ℤ) (y : MaybeM) → T (tight (m_is x) d y) → y ≡ m_is (x +ℤ d)
tight_passes x d absent t = absurd t
tight_passes x d (m_is y) t = ap m_is (sym (eq_z_passes (x +ℤ d) y t))

abbrev pub rule_kept : Graph → (ℕ → MaybeM) → ℕ → Bool
rule_kept g m i = keeps_rule (m (source g i)) (least g i) (m (target g i))

abbrev pub rule_tight : Graph → (ℕ → MaybeM) → ℕ → ℕ → Bool
rule_tight g m v i = eqb (source g i) v && tight (m v) (least g i) (m (target g i))

-- m(s) is 0; m keeps every rule; and each event other than s that has an m has a rule out of it that gives it
abbrev pub keeps_m : Graph → ℕ → (ℕ → MaybeM) → Bool
keeps_m g s m =
    same_m (m s) (pos 0) && (all_below (rules g) (rule_kept g m) && each_event g (λ v. eqb v s || is_absent (m v)) (rule_tight g m))

pub record Ms (g : Graph) (s : ℕ) (m : ℕ → MaybeM) : Type 0 where
  pub at_s : m s ≡ m_is (pos 0)
  pub keeps : (i : ℕ) → i < rules g → (z : ℤ) → AtMost (m (target g i)) z → AtMost (m (source g i)) (z -ℤ least g i)
  pub begins : (v : ℕ) (x : ℤ) → v < g.events → (v ≡ s → ⊥) → m v ≡ m_is x → (i : ℕ) × (i < rules g) × (source g i ≡ v) × (m (target g i) ≡ m_is (x +ℤ least g i))

pub ms_kept : (g : Graph) (s : ℕ) (m : ℕ → MaybeM) → T (keeps_m g s m) → Ms g s m
ms_kept g s m t =
    let (zero-s, each) = both_pass (same_m (m s) (pos 0)) _ t in
    let (kept, reached) = both_pass (all_below (rules g) (rule_kept g m)) _ each in
    record {
      at_s = same_m_lem (m s) (pos 0) zero-s;
      keeps = λ i l. rule_kept_lem (m (source g i)) (least g i) (m (target g i)) (all_pass (rules g) (rule_kept g m) kept i l);
      begins =
          λ v x l other has.
          let (i, k, here) = each_event_lem g (λ w. eqb w s || is_absent (m w)) (rule_tight g m) reached v l (in_it v x other has) in
          let (from, exact) = both_pass (eqb (source g i) v) _ here in
          (i, k, eqb→eq (source g i) v from, tight_passes x (least g i) (m (target g i)) (subst (λ (y : MaybeM). T (tight y (least g i) (m (target g i)))) has exact));
    }
  where
    in_it : (v : ℕ) (x : ℤ) → (v ≡ s → ⊥) → m v ≡ m_is x → T (eqb v s || is_absent (m v)) → ⊥
    in_it v x other has out = by (one_passes (eqb v s) (is_absent (m v)) out)
      where
        by : T (eqb v s) ⊎ T (is_absent (m v)) → ⊥
        by (inl same) = other (eqb→eq v s same)
        by (inr none) = subst (λ (y : MaybeM). T (is_absent y)) has none

-- ---- U

abbrev pub is_lesser : ℤ → ℤ → ℤ → Bool
is_lesser a b c = (le_z c a && le_z c b) && (eq_z c a || eq_z c b)

pub lesser_passes : (a b c : ℤ) → T (is_lesser a b c) → Lesser a b c
lesser_passes a b c t =
    let (under, which) = both_pass (le_z c a && le_z c b) _ t in
    let (left, right) = both_pass (le_z c a) _ under in
    record {
      left = record { le = left };
      right = record { le = right };
      one = by (one_passes (eq_z c a) (eq_z c b) which);
    }
  where
    by : T (eq_z c a) ⊎ T (eq_z c b) → (c ≡ a) ⊎ (c ≡ b)
    by (inl first) = inl (eq_z_passes c a first)
    by (inr second) = inr (eq_z_passes c b second)

-- "the lesser of m(v) and" the arrival; the arrival where there is no m(v)
abbrev pub is_cut : MaybeM → ℤ → ℤ → Bool
is_cut absent a y = eq_z y a
is_cut (m_is x) a y = is_lesser x a y

abbrev pub Cut : MaybeM → ℤ → ℤ → Type 0
Cut absent a y = y ≡ a
Cut (m_is x) a y = Lesser x a y

cut_passes : (x : MaybeM) (a y : ℤ) → T (is_cut x a y) → Cut x a y
cut_passes absent a y t = eq_z_passes y a t
cut_passes (m_is x) a y t = lesser_passes x a y t

-- U(source) + D of rule i
abbrev pub arrival : Graph → (ℕ → ℤ) → ℕ → ℤ
arrival g u i = u (source g i) +ℤ most g i

-- rule i leads to v, no rule into v arrives later, and U(v) is as its arrival says
abbrev pub not_later : Graph → (ℕ → ℤ) → ℕ → ℤ → ℕ → Bool
not_later g u v a j = not (eqb (target g j) v) || le_z (arrival g u j) a

abbrev pub gives_u : Graph → (ℕ → MaybeM) → (ℕ → ℤ) → ℕ → ℕ → Bool
gives_u g m u v i = eqb (target g i) v && (all_below (rules g) (not_later g u v (arrival g u i)) && is_cut (m v) (arrival g u i) (u v))

abbrev pub keeps_u : Graph → (ℕ → MaybeM) → (ℕ → ℤ) → Bool
keeps_u g m u = same_m (m 0) (u 0) && each_event g (λ v. eqb v 0) (gives_u g m u)

pub record Us (g : Graph) (m : ℕ → MaybeM) (u : ℕ → ℤ) : Type 0 where
  pub root : m 0 ≡ m_is (u 0)
  pub others : (v : ℕ) → v < g.events → (v ≡ 0 → ⊥) → (a : ℤ) × Greatest g v (λ i. u (source g i) +ℤ most g i) a × Cut (m v) a (u v)

pub us_kept : (g : Graph) (m : ℕ → MaybeM) (u : ℕ → ℤ) → T (keeps_u g m u) → Us g m u
us_kept g m u t =
    let (root, each) = both_pass (same_m (m 0) (u 0)) _ t in
    record {
      root = same_m_lem (m 0) (u 0) root;
      others =
          λ v l other.
          let (i, k, here) = each_event_lem g (λ w. eqb w 0) (gives_u g m u) each v l (λ same. other (eqb→eq v 0 same)) in
          let (into, rest) = both_pass (eqb (target g i) v) _ here in
          let (greatest, cut) = both_pass (all_below (rules g) (not_later g u v (arrival g u i))) _ rest in (
            arrival g u i,
            record {
              reached = (i, k, eqb→eq (target g i) v into, refl);
              bound = λ j h to. no_later v (arrival g u i) j to (all_pass (rules g) (not_later g u v (arrival g u i)) greatest j h);
            },
            cut_passes (m v) (arrival g u i) (u v) cut,
          );
    }
  where
    no_later : (v : ℕ) (a : ℤ) (j : ℕ) → target g j ≡ v → T (not_later g u v a j) → arrival g u j ≤ℤ a
    no_later v a j to passed = by (one_passes (not (eqb (target g j) v)) (le_z (arrival g u j) a) passed)
      where
        by : T (not (eqb (target g j) v)) ⊎ T (le_z (arrival g u j) a) → arrival g u j ≤ℤ a
        by (inl other) = absurd (T_not (eqb (target g j) v) other (subst (λ (w : ℕ). T (eqb (target g j) w)) to (eqb_refl (target g j))))
        by (inr le) = record { le = le }

-- ---- a schedule

-- the time of v is U(v) − U(root)
abbrev pub is_time : (ℕ → ℤ) → (ℕ → ℤ) → ℕ → Bool
is_time u time v = eq_z (time v) (u v -ℤ u 0)

-- the delay of rule i is the lesser of the time between its events and its most delay
abbrev pub is_delay : Graph → (ℕ → ℤ) → (ℕ → ℤ) → ℕ → Bool
is_delay g time delay i = is_lesser (time (target g i) -ℤ time (source g i)) (most g i) (delay i)

abbrev pub keeps_schedule : Graph → (ℕ → ℤ) → (ℕ → ℤ) → (ℕ → ℤ) → Bool
keeps_schedule g u delay time = all_below g.events (is_time u time) && all_below (rules g) (is_delay g time delay)

pub times_kept : (g : Graph) (u delay time : ℕ → ℤ) → T (keeps_schedule g u delay time) → (v : ℕ) → v < g.events → time v ≡ u v -ℤ u 0
times_kept g u delay time t v l =
    let (times, delays) = both_pass (all_below g.events (is_time u time)) _ t in
    eq_z_passes (time v) (u v -ℤ u 0) (all_pass g.events (is_time u time) times v l)

pub delays_lesser : (g : Graph) (u delay time : ℕ → ℤ) → T (keeps_schedule g u delay time) → (i : ℕ) → i < rules g → Lesser (time (target g i) -ℤ time (source g i)) (most g i) (delay i)
delays_lesser g u delay time t i l =
    let (times, delays) = both_pass (all_below g.events (is_time u time)) _ t in
    lesser_passes (time (target g i) -ℤ time (source g i)) (most g i) (delay i) (all_pass (rules g) (is_delay g time delay) delays i l)

-- ---- the whole certificate

pub record Certificate : Type 0 where
  pub depths : List ℕ
  pub ms : List MaybeM
  pub us : List ℤ

abbrev pub depth_at : Certificate → ℕ → ℕ
depth_at c v = get_or c.depths v 0

abbrev pub m_at : Certificate → ℕ → MaybeM
m_at c v = get_or c.ms v absent

abbrev pub u_at : Certificate → ℕ → ℤ
u_at c v = get_or c.us v (pos 0)
