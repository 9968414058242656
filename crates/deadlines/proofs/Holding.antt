-- What a turn of the rounds does: an arc held, a rule held both ways, the rules held one after another.
--     CutOff x y, cut_off       y is the greater of x and the floor; `max` gives it
--     arc_lowered, arc_kept     an arc held, where a number was lowered and where none was
--     read_arc                  its weight, as the code forms it, is read back
--     rule_held                 a rule held, from both its arcs
--     rules_none                before the first rule
--     rules_turn                one rule more
-- Assumes nothing.
use mathlib.Core.Path.{◌≡◌, refl, sym, subst, ◌∙◌}
use mathlib.Core.Bool.{Bool, true, false, ◌||◌, true≢false}
use mathlib.Core.Logic.{◌⊎◌, inl, inr, ⊎_elim}
use mathlib.Core.List.{List}
use Prim.Native.Nat.{ℕ, ◌+◌, ◌<◌}
use native.Mathlib.Decide.{ℕ_discrete}
use native.Mathlib.Nat.{not-suc-le-zero}
use native.Mathlib.Omega.{arith}
use lib.IntN.{ℤ, pos, neg_ℤ, ◌+ℤ◌}
use lib.Signed.{◌≤ℤ◌, ◌<ℤ◌, lt_z}
use lib.ListN.{length, set}
use lib.Seq.{get_or-set_same, get_or-set_other}
use borrow.Author.Count.{below_more}
use Rattle.std.proofs.Common.{cond}
use Rattle.std.specs.Int.{int_max}
use Rattle.integers.specs.Within.{Within}
use Rattle.integers.proofs.Integer.{linear, sum}
use Rattle.graphs.specs.Graph.{Graph, rules, source, target, least, most}
use Rattle.graphs.specs.Limits.{EndsKept, Sized}
use Rattle.separation.specs.Promise.{at}
use Rattle.deadlines.specs.Parts.Rounds.{floor, Below, NumbersWithin, ArcHeld, RuleHeld, RulesHeld}

pub record CutOff (x y : ℤ) : Type 0 where
  pub not_below : x ≤ℤ y
  pub floored : floor ≤ℤ y
  pub one : (y ≡ x) ⊎ (y ≡ floor)

pub cut_off : (x : ℤ) → CutOff x (int_max x floor)
cut_off x = by (lt_z floor x) refl
  where
    by : (above : Bool) → lt_z floor x ≡ above → CutOff x (cond above x floor)
    by true e = record { not_below = omega linear; floored = omega linear; one = inl refl }
    by false e = record { not_below = omega linear; floored = omega linear; one = inr refl }

-- what is said of m at place b, and of the list elsewhere
set_each : (Q : ℤ → Type 0) (xs : List ℤ) (b : ℕ) (m : ℤ) → b < length xs → (v : ℕ) → (v ≡ b → Q m) → ((v ≡ b → ⊥) → Q (at xs v)) → Q (at (set xs b m) v)
set_each Q xs b m room v here other = by (ℕ_discrete v b)
  where
    by : Dec (v ≡ b) → Q (at (set xs b m) v)
    by (yes e) = subst (λ (u : ℕ). Q (at (set xs b m) u)) (sym e) (subst Q (sym (get_or-set_same xs b m (pos 0) room)) (here e))
    by (no n) = subst Q (sym (get_or-set_other xs b v m (pos 0) n)) (other n)

-- ---- an arc

module _ (a b : ℕ) (w : ℤ) {m : ℤ} (xs : List ℤ) (cut : CutOff (at xs a +ℤ w) m) where
  -- m is at most what the arc asks, or the floor
  cut_below : (y : ℤ) → y ≤ℤ m → Below y (at xs a +ℤ w)
  cut_below y l = ⊎_elim (λ (e : m ≡ at xs a +ℤ w). inl (omega linear)) (λ (e : m ≡ floor). inr (omega linear)) cut.one

  -- what meets the arc and is above the floor is at most m
  under_cut : (h : ℕ → ℤ) → h b ≤ℤ (h a +ℤ w) → h a ≤ℤ at xs a → h b ≤ℤ m
  under_cut h meets under = omega (linear, meets, under, cut.not_below, sum (h a) w, sum (at xs a) w)

  pub arc_lowered : b < length xs → m <ℤ at xs b → ArcHeld a b w xs (set xs b m) true
  arc_lowered room less =
      record {
        not_raised = λ v. set_each (λ (y : ℤ). y ≤ℤ at xs v) xs b m room v (λ e. let same : at xs v ≡ at xs b = λ i. at xs (e i) in omega (linear, less)) (λ n. omega linear);
        within = λ v k.
            set_each (Within 2046000001) xs b m room v
            (λ e. let same : at xs v ≡ at xs b = λ i. at xs (e i) in record { above = cut.floored; below = omega (linear, less, k.below) })
            (λ n. k);
        held = cut_below (at (set xs b m) b) (let same : at (set xs b m) b ≡ m = get_or-set_same xs b m (pos 0) room in omega linear);
        safe = λ h meets above under v before.
            set_each (λ (y : ℤ). h v ≤ℤ y) xs b m room v (λ e. let same : h v ≡ h b = λ i. h (e i) in omega (linear, under_cut h meets under)) (λ n. before);
        lowered = λ _. let same : at (set xs b m) b ≡ m = get_or-set_same xs b m (pos 0) room in omega (linear, less);
        kept = λ e. absurd (true≢false e);
      }

  pub arc_kept : at xs b ≤ℤ m → ArcHeld a b w xs xs false
  arc_kept low =
      record {
        not_raised = λ v. omega linear;
        within = λ v k. k;
        held = cut_below (at xs b) low;
        safe = λ h meets above under v before. before;
        lowered = λ e. absurd (true≢false (sym e));
        kept = λ _. refl;
      }

-- its weight, as the code forms it, is read back
pub read_arc : {a b : ℕ} {w x : ℤ} {xs ys : List ℤ} {f : Bool} → w ≡ x → ArcHeld a b w xs ys f → ArcHeld a b x xs ys f
read_arc {a} {b} {xs = xs} {ys = ys} {f = f} e h = subst (λ (w : ℤ). ArcHeld a b w xs ys f) e h

-- ---- a rule

module _ {a b : ℕ} {d D : ℤ} {xs ys zs : List ℤ} {f k : Bool} (forth : ArcHeld a b D xs ys f) (back : ArcHeld b a (neg_ℤ d) ys zs k) where
  both : (c : Bool) → (c ≡ true → (at zs b <ℤ at xs b) ⊎ (at zs a <ℤ at xs a)) → (c ≡ false → zs ≡ xs) → RuleHeld a b d D xs zs c
  both c lowered kept =
      record {
        not_raised = λ v. omega (linear, back.not_raised v, forth.not_raised v);
        within = λ v w. back.within v (forth.within v w);
        forth = ⊎_elim (λ (l : at ys b ≤ℤ (at xs a +ℤ D)). inl (omega (linear, back.not_raised b))) (λ (l : at ys b ≤ℤ floor). inr (omega (linear, back.not_raised b))) forth.held;
        back =
            ⊎_elim
            (λ (l : at zs a ≤ℤ (at ys b +ℤ neg_ℤ d)). inl (omega (linear, forth.not_raised b, sum (at ys b) (neg_ℤ d), sum (at xs b) (neg_ℤ d))))
            (λ (l : at zs a ≤ℤ floor). inr l)
            back.held;
        safe = λ h meets source-under target-under v under.
            back.safe h meets.back meets.source_above
            (forth.safe h meets.forth meets.target_above source-under b target-under)
            v
            (forth.safe h meets.forth meets.target_above source-under v under);
        lowered = lowered;
        kept = kept;
      }

  pub rule_held : RuleHeld a b d D xs zs (f || k)
  rule_held = by f refl
    where
      by : (x : Bool) → f ≡ x → RuleHeld a b d D xs zs (x || k)
      by true e = both true (λ _. inl (omega (linear, forth.lowered e, back.not_raised b))) (λ t. absurd (true≢false t))
      by false e = both k (λ t. inr (omega (linear, back.lowered t, forth.not_raised a))) (λ t. back.kept t ∙ forth.kept e)

-- ---- the rules

pub rules_none : {g : Graph} {xs : List ℤ} → NumbersWithin g.events xs → RulesHeld g 0 xs xs false
rules_none within =
    record {
      not_raised = λ v. omega linear;
      within = within;
      forth = λ i none. absurd (not-suc-le-zero none);
      back = λ i none. absurd (not-suc-le-zero none);
      safe = λ h meets under. under;
      lowered = λ e. absurd (true≢false (sym e));
      kept = λ _. refl;
    }

module _ {g : Graph} {i : ℕ} {xs ys zs : List ℤ} {c f : Bool} (sized : Sized 1000000 g) (known : i < rules g) (before : RulesHeld g i xs ys c) (rule : RuleHeld (source g i) (target g i) (least g i) (most g i) ys zs f) where
  ends : EndsKept g i
  ends = sized.ends i known

  still_below : (u : ℕ) (z : ℤ) → Below (at ys u) z → Below (at zs u) z
  still_below u z l = ⊎_elim (λ (e : at ys u ≤ℤ z). inl (omega (linear, rule.not_raised u))) (λ (e : at ys u ≤ℤ floor). inr (omega (linear, rule.not_raised u))) l

  lower_start : (u : ℕ) (w y : ℤ) → Below y (at ys u +ℤ w) → Below y (at xs u +ℤ w)
  lower_start u w y l =
      ⊎_elim (λ (e : y ≤ℤ (at ys u +ℤ w)). inl (omega (linear, before.not_raised u, sum (at ys u) w, sum (at xs u) w))) (λ (e : y ≤ℤ floor). inr e) l

  one_more : (r : Bool) → (r ≡ true → (v : ℕ) × (v < g.events) × (at zs v <ℤ at xs v)) → (r ≡ false → zs ≡ xs) → RulesHeld g (i + 1) xs zs r
  one_more r lowered kept =
      record {
        not_raised = λ v. omega (linear, rule.not_raised v, before.not_raised v);
        within = λ v l. rule.within v (before.within v l);
        forth =
            below_more (λ j. Below (at zs (target g j)) (at xs (source g j) +ℤ most g j)) i
            (λ j l. still_below (target g j) (at xs (source g j) +ℤ most g j) (before.forth j l)) (lower_start (source g i) (most g i) (at zs (target g i)) rule.forth);
        back =
            below_more (λ j. Below (at zs (source g j)) (at xs (target g j) +ℤ neg_ℤ (least g j))) i
            (λ j l. still_below (source g j) (at xs (target g j) +ℤ neg_ℤ (least g j)) (before.back j l)) (lower_start (target g i) (neg_ℤ (least g i)) (at zs (source g i)) rule.back);
        safe = λ h meets under v l.
            let earlier : (u : ℕ) → u < g.events → h u ≤ℤ at ys u = before.safe h (λ j m. meets j (omega arith)) under in
            rule.safe h (meets i (omega arith)) (earlier (source g i) ends.source_known) (earlier (target g i) ends.target_known) v (earlier v l);
        lowered = lowered;
        kept = kept;
      }

  pub rules_turn : RulesHeld g (i + 1) xs zs (c || f)
  rules_turn = by c f refl refl
    where
      now : (at zs (target g i) <ℤ at ys (target g i)) ⊎ (at zs (source g i) <ℤ at ys (source g i)) → (v : ℕ) × (v < g.events) × (at zs v <ℤ at xs v)
      now (inl l) = (target g i, ends.target_known, omega (linear, before.not_raised (target g i)))
      now (inr l) = (source g i, ends.source_known, omega (linear, before.not_raised (source g i)))

      by : (x y : Bool) → c ≡ x → f ≡ y → RulesHeld g (i + 1) xs zs (x || y)
      by true y e h = one_more true (λ _. let (v, l, less) = before.lowered e in (v, l, omega (linear, less, rule.not_raised v))) (λ t. absurd (true≢false t))
      by false true e h = one_more true (λ _. now (rule.lowered h)) (λ t. absurd (true≢false t))
      by false false e h = one_more false (λ t. absurd (true≢false (sym t))) (λ _. rule.kept h ∙ before.kept e)
