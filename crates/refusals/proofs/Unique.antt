-- The promises allow one answer.
--     known_not_unknown, inside_not_outside       an entry has a fault or has none, not both
--     lowest_or_unique                            a search in which nothing is both good and bad has one number
--     unknown_or_unique, outside_or_unique        so has each of the two searches, where a number is its answer
--     unknown_event_unique, outside_delay_unique  and each has one answer
--     interval_outside_unique                     so has the test of one interval
--     check_counts_unique, counts_unique          the counts of a graph have one refusal, and it one number
--     number_unique, place_unique                 a refusal has one number and one place
--     limit_unique                                and a limit one bound of the delays
--     same_refusal                                a refusal is its number and place
--     same_result                                 so is a result, where two that are no refusal are equal
--     check_input_unique, input_unique            a question has one refusal, and it one number and place
-- Assumes nothing.
use Rattle.std.proofs.Common.{Option, cond, eqb, Result, Ok, Err, sym, ap, ◌∙◌}
use mathlib.Core.Path.{◌≡◌, refl}
use mathlib.Core.Bool.{Bool, true, false}
use mathlib.Core.Logic.{⊎_elim}
use mathlib.Core.List.{List, [], ◌∷◌}
use Prim.Native.Nat.{ℕ, ◌<◌, min}
use native.Mathlib.Omega.{arith}
use lib.IntN.{ℤ}
use lib.ListN.{length}
use Rattle.graphs.specs.Graph.{Graph, graph_of}
use Rattle.graphs.specs.Refusal.{BeyondDelays, count_checks, question_checks_to}
use Rattle.graphs.proofs.Unique.{delays_kept}
use Rattle.graphs.proofs.Refusals.{count_places, question_places}
use Rattle.verdicts.specs.Verdict.{LowestOr, LowestIn, FirstOf}
use Rattle.verdicts.proofs.Searches.{lowest_in_unique}
use Rattle.verdicts.proofs.Verdicts.{one_verdict}
use Rattle.refusals.specs.Numbers.{number_of, place_of, number_in, place_in, Refuses}
use Rattle.refusals.specs.declared.Refusal.{Refusal}
use Rattle.refusals.specs.declared.Refusal.TheVariants.{BytesOutside, UnknownEvent, DelayOutside, UnknownSource, UnknownTarget, Cycle, Unreached, MarkOutside, BrokenRow, StepOutside, NoHardTimes, EventsOutside, RulesOutside, ShortList, CopiesOutside}
use Rattle.refusals.specs.Question.{delay_limit}
use Rattle.refusals.specs.Faults.{EndsKnown, EndUnknown, BoundedDelays, DelaysInside, DelaysOutside, DelaysChecked}

pub known_not_unknown : {n : ℕ} {ss ts : List ℕ} {i : ℕ} → EndsKnown n ss ts i → EndUnknown n ss ts i → ⊥
known_not_unknown h u = ⊎_elim (λ l. omega (arith, h.source_known)) (λ l. omega (arith, h.target_known)) u

-- read as the delays of the one rule of a graph
pub inside_not_outside : {b : ℕ} {d D : ℤ} → BoundedDelays b d D → BeyondDelays b d D → ⊥
inside_not_outside {b} {d} {D} h o =
    delays_kept
    {g = graph_of 1 (0 ∷ []) (0 ∷ []) (d ∷ []) (D ∷ [])}
    {i = 0}
    (record { least_within = h.least_within; most_within = h.most_within; ordered = h.ordered })
    (record { is_rule = omega arith; outside = o })

pub lowest_or_unique : {k : ℕ} {Good Bad : ℕ → Type 0} → ((i : ℕ) → Good i → Bad i → ⊥) → {p q : ℕ} → LowestOr k Good Bad p → LowestOr k Good Bad q → p ≡ q
lowest_or_unique {k} apart {p} {q} a b =
    let not_below : q < p → ⊥ = λ l. apart q (a.before q l) (b.bad (omega (arith, a.within))) in
    let not_above : p < q → ⊥ = λ l. apart p (b.before p l) (a.bad (omega (arith, b.within))) in
    omega arith

module _ {n : ℕ} {ss ts : List ℕ} {p q : ℕ} where
  pub unknown_or_unique :
      LowestOr (min (length ss) (length ts)) (EndsKnown n ss ts) (EndUnknown n ss ts) p →
      LowestOr (min (length ss) (length ts)) (EndsKnown n ss ts) (EndUnknown n ss ts) q →
      p ≡ q
  unknown_or_unique = lowest_or_unique (λ i. known_not_unknown)

module _ (ds Ds : List ℤ) {p q : ℕ} where
  pub outside_or_unique :
      LowestOr (min (length ds) (length Ds)) (DelaysInside ds Ds) (DelaysOutside ds Ds) p →
      LowestOr (min (length ds) (length Ds)) (DelaysInside ds Ds) (DelaysOutside ds Ds) q →
      p ≡ q
  outside_or_unique = lowest_or_unique (λ i. inside_not_outside)

module _ (n : ℕ) (ss ts : List ℕ) {x y : Option ℕ} where
  pub unknown_event_unique :
      LowestIn (min (length ss) (length ts)) (EndsKnown n ss ts) (EndUnknown n ss ts) x →
      LowestIn (min (length ss) (length ts)) (EndsKnown n ss ts) (EndUnknown n ss ts) y →
      x ≡ y
  unknown_event_unique = lowest_in_unique _ _ _ (λ i. known_not_unknown) x y

module _ (ds Ds : List ℤ) {x y : Option ℕ} where
  pub outside_delay_unique :
      LowestIn (min (length ds) (length Ds)) (DelaysInside ds Ds) (DelaysOutside ds Ds) x →
      LowestIn (min (length ds) (length Ds)) (DelaysInside ds Ds) (DelaysOutside ds Ds) y →
      x ≡ y
  outside_delay_unique = lowest_in_unique _ _ _ (λ i. inside_not_outside) x y

pub interval_outside_unique : (b : ℕ) (d D : ℤ) (x y : Bool) → DelaysChecked b d D x → DelaysChecked b d D y → x ≡ y
interval_outside_unique b d D true true a c = refl
interval_outside_unique b d D false false a c = refl
interval_outside_unique b d D true false a c = absurd (inside_not_outside c a)
interval_outside_unique b d D false true a c = absurd (inside_not_outside a c)

pub number_unique : (r : Refusal) {x y : ℕ} → x ≡ number_of r → y ≡ number_of r → x ≡ y
number_unique r e f = e ∙ sym f

pub place_unique : (r : Refusal) {x y : ℕ} → x ≡ place_of r → y ≡ place_of r → x ≡ y
place_unique r e f = e ∙ sym f

pub limit_unique : (limit : ℕ) {x y : ℕ} → x ≡ delay_limit limit → y ≡ delay_limit limit → x ≡ y
limit_unique limit e f = e ∙ sym f

-- A refusal is its number and place: from the two it can be told. Numbers of no refusal stand for the last.
told : ℕ → ℕ → Refusal
told k p =
    cond (eqb k 1) BytesOutside
    (cond (eqb k 2) (UnknownEvent p)
    (cond (eqb k 3) (DelayOutside p)
    (cond (eqb k 4) (cond (eqb p 0) UnknownSource UnknownTarget)
    (cond (eqb k 5) (Cycle p)
    (cond (eqb k 6) (Unreached p)
    (cond (eqb k 7) (MarkOutside p)
    (cond (eqb k 8) (BrokenRow p)
    (cond (eqb k 9) (StepOutside p)
    (cond (eqb k 10) NoHardTimes
    (cond (eqb k 21) EventsOutside
    (cond (eqb k 22) RulesOutside
    (cond (eqb k 23) ShortList CopiesOutside))))))))))))

told_back : (r : Refusal) → told (number_of r) (place_of r) ≡ r
unfolding told
told_back BytesOutside = refl
told_back (UnknownEvent p) = refl
told_back (DelayOutside p) = refl
told_back UnknownSource = refl
told_back UnknownTarget = refl
told_back (Cycle p) = refl
told_back (Unreached p) = refl
told_back (MarkOutside p) = refl
told_back (BrokenRow p) = refl
told_back (StepOutside p) = refl
told_back NoHardTimes = refl
told_back EventsOutside = refl
told_back RulesOutside = refl
told_back ShortList = refl
told_back CopiesOutside = refl

pub same_refusal : (a b : Refusal) → number_of a ≡ number_of b → place_of a ≡ place_of b → a ≡ b
same_refusal a b e f = sym (told_back a) ∙ ap (λ k. told k (place_of a)) e ∙ ap (λ p. told (number_of b) p) f ∙ told_back b

-- no refusal has number 0
pub some_number : (r : Refusal) → number_of r ≡ 0 → ⊥
some_number BytesOutside e = omega arith
some_number (UnknownEvent p) e = omega arith
some_number (DelayOutside p) e = omega arith
some_number UnknownSource e = omega arith
some_number UnknownTarget e = omega arith
some_number (Cycle p) e = omega arith
some_number (Unreached p) e = omega arith
some_number (MarkOutside p) e = omega arith
some_number (BrokenRow p) e = omega arith
some_number (StepOutside p) e = omega arith
some_number NoHardTimes e = omega arith
some_number EventsOutside e = omega arith
some_number RulesOutside e = omega arith
some_number ShortList e = omega arith
some_number CopiesOutside e = omega arith

-- two results with one number and one place are equal, where those that are no refusal are
pub same_result : {T : Type 0} (x y : Result T Refusal) →
    number_in x ≡ number_in y →
    place_in x ≡ place_in y →
    ((a b : T) → x ≡ Ok a → y ≡ Ok b → a ≡ b) →
    x ≡ y
same_result (Ok a) (Ok b) e f same = ap Ok (same a b refl refl)
same_result (Ok a) (Err q) e f same = absurd (some_number q (sym e))
same_result (Err r) (Ok b) e f same = absurd (some_number r e)
same_result (Err r) (Err q) e f same = ap Err (same_refusal r q e f)

pub input_unique : {b : ℕ} {g : Graph} {s t i p j q : ℕ} → FirstOf (question_checks_to b g s t ⊥) i p → FirstOf (question_checks_to b g s t ⊥) j q → (i ≡ j) × (p ≡ q)
input_unique {b} {g} {s} {t} v w = one_verdict (question_checks_to b g s t ⊥) (question_places g s t ⊥) _ _ _ _ v w

pub check_input_unique : {b : ℕ} {g : Graph} {s t : ℕ} {x y : Result Unit Refusal} →
    Refuses (question_checks_to b g s t ⊥) x →
    Refuses (question_checks_to b g s t ⊥) y →
    x ≡ y
check_input_unique {b} {g} {s} {t} {x} {y} v w =
    let (numbers, places) = input_unique v w in
    same_result x y numbers places (λ _ _ _ _. refl)

pub check_counts_unique : {top most : ℕ} {g : Graph} {x y : Result Unit Refusal} → Refuses (count_checks top most g) x → Refuses (count_checks top most g) y → x ≡ y
check_counts_unique {top} {most} {g} {x} {y} v w =
    let (numbers, places) = one_verdict (count_checks top most g) (count_places g) _ _ _ _ v w in
    same_result x y numbers places (λ _ _ _ _. refl)

pub counts_unique : {top most : ℕ} {g : Graph} {a b : ℕ} → FirstOf (count_checks top most g) a 0 → FirstOf (count_checks top most g) b 0 → a ≡ b
counts_unique {top} {most} {g} v w = (one_verdict (count_checks top most g) (count_places g) _ _ _ _ v w).0
