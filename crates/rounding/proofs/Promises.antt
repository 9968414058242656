-- The promises of the functions that round: what they are put together from, and that two results allowed for one input are equal, lists included.
--     step_places, step_kept             refusal 9 has one place; where q is from 1 to 1,000, it does not apply
--     lists_kept                         where the lists are as long and have room, refusals 22 and 23 do not apply
--     lowest_entry, all_inside           what the search for a delay outside tells, by whether it found one
--     rounding_22, rounding_23, rounding_3, rounding_9    the refusals, each from the facts that shut out the earlier ones
--     delays_refused, delays_rounded     a refusal, which leaves both lists as they were; and what is written where there is none
--     went_down_unique, went_up_unique   a number is rounded to one number
--     round_delays_unique                two results of `round_delays` are equal
-- Assumes nothing.
use Rattle.std.proofs.Common.{Result, Ok, Err}
use mathlib.Core.Path.{◌≡◌, refl, sym, ◌∙◌}
use mathlib.Core.Logic.{inl, inr, ⊎_elim}
use mathlib.Core.List.{List, [], ◌∷◌}
use Prim.Native.Nat.{ℕ, ◌<◌, ◌≤◌, min}
use native.Mathlib.Decide.{ℕ_discrete}
use native.Mathlib.Omega.{arith}
use lib.IntN.{ℤ, pos}
use lib.ListN.{length, get_or}
use Rattle.sequences.specs.Filled.{Filled}
use Rattle.sequences.proofs.Same.{same_places}
use Rattle.verdicts.specs.Verdict.{check, given, passed, AtZero, Lowest, FoundAt, FirstOf}
use Rattle.verdicts.proofs.Verdicts.{OnePlace, NoneApplies, Misses, at_zero, misses_at_zero, lowest_unique, at_zero_unique, one_verdict, none_accepted}
use Rattle.verdicts.proofs.Searches.{found_lowest, found_as_long}
use Rattle.refusals.specs.declared.Refusal.{Refusal}
use Rattle.refusals.specs.Numbers.{number_of, place_of, number_in, place_in}
use Rattle.refusals.specs.Faults.{DelaysInside, DelaysOutside}
use Rattle.refusals.proofs.Unique.{inside_not_outside, some_number, same_result}
use Rattle.rounding.specs.Rounding.{Down, Up}
use Rattle.rounding.specs.Promise.{StepOutside, WentDown, went_down, not_down, WentUp, went_up, not_up, ListsDiffer, ShortForDelays, EntryOutside, rounding_checks, DelaysRounded}
use Rattle.rounding.proofs.Multiples.{down_unique, up_unique}

-- ---- refusals 22, 23, 3 and 9

pub step_places : {q : ℕ} → OnePlace (StepOutside q)
step_places a b x y = x.its_place ∙ sym y.its_place

pub step_kept : {q : ℕ} → 1 ≤ q → q ≤ 1000 → Misses (StepOutside q)
step_kept {q} positive small p o =
    ⊎_elim (λ (e : q ≡ 0). let none : ⊥ = omega arith in none) (λ (l : 1000 < q). let none : ⊥ = omega arith in none) o.outside

-- as many of each, and room
pub record Room (leasts mosts low high : ℕ) : Type 0 where
  pub as_many : mosts ≡ leasts
  pub low_long : leasts ≤ low
  pub high_long : leasts ≤ high

module _ (ds Ds low high : List ℤ) (room : Room (length ds) (length Ds) (length low) (length high)) where
  long_enough : ShortForDelays ds low high → ⊥
  long_enough (inl l) = omega (arith, room.low_long)
  long_enough (inr l) = omega (arith, room.high_long)

  pub lists_kept : NoneApplies (check 22 (AtZero (ListsDiffer ds Ds)) ∷ check 23 (AtZero (ShortForDelays ds low high)) ∷ [])
  lists_kept = (misses_at_zero (λ differ. differ room.as_many), (misses_at_zero long_enough, tt))

module _ (ds Ds : List ℤ) (as_many : length Ds ≡ length ds) where
  pub lowest_entry : {r : ℕ} → FoundAt (min (length ds) (length Ds)) (DelaysInside ds Ds) (DelaysOutside ds Ds) r → Lowest (EntryOutside ds Ds) r
  lowest_entry h =
      found_lowest
      (EntryOutside ds Ds)
      (λ i _ inside o. inside_not_outside inside o.outside)
      (λ i l outside. record { is_entry = l; outside = outside })
      (found_as_long _ _ as_many h)

  pub all_inside : ((i : ℕ) → i < min (length ds) (length Ds) → DelaysInside ds Ds i) → (i : ℕ) → i < length ds → DelaysInside ds Ds i
  all_inside h i l = h i (omega arith)

pub inside_kept : {ds Ds : List ℤ} → ((i : ℕ) → i < length ds → DelaysInside ds Ds i) → Misses (Lowest (EntryOutside ds Ds))
inside_kept inside p o = inside_not_outside (inside p o.holds.is_entry) o.holds.outside

module _ {q : ℕ} {ds Ds : List ℤ} (low high : List ℤ) where
  pub rounding_22 : ListsDiffer ds Ds → FirstOf (rounding_checks q ds Ds low high) 22 0
  rounding_22 h = given (at_zero h)

  pub rounding_23 : length Ds ≡ length ds → ShortForDelays ds low high → FirstOf (rounding_checks q ds Ds low high) 23 0
  rounding_23 e h = passed (misses_at_zero (λ differ. differ e)) (given (at_zero h))

  module _ (room : Room (length ds) (length Ds) (length low) (length high)) where
    pub rounding_3 : {p : ℕ} → Lowest (EntryOutside ds Ds) p → FirstOf (rounding_checks q ds Ds low high) 3 p
    rounding_3 h =
        let (differ, (short, _)) = lists_kept ds Ds low high room in
        passed differ (passed short (given h))

    pub rounding_9 : ((i : ℕ) → i < length ds → DelaysInside ds Ds i) → {p : ℕ} → StepOutside q p → FirstOf (rounding_checks q ds Ds low high) 9 p
    rounding_9 inside h =
        let (differ, (short, _)) = lists_kept ds Ds low high room in
        passed differ (passed short (passed (inside_kept inside) (given h)))

    rounding_0 : ((i : ℕ) → i < length ds → DelaysInside ds Ds i) → 1 ≤ q → q ≤ 1000 → FirstOf (rounding_checks q ds Ds low high) 0 0
    rounding_0 inside positive small =
        let (differ, (short, _)) = lists_kept ds Ds low high room in
        none_accepted (rounding_checks q ds Ds low high) (differ, (short, (inside_kept inside, (step_kept positive small, tt))))

-- ---- the results

module _ {q : ℕ} {ds Ds low high : List ℤ} where
  pub delays_refused : (r : Refusal) → FirstOf (rounding_checks q ds Ds low high) (number_of r) (place_of r) → DelaysRounded q ds Ds low high low high (Err r)
  delays_refused r v =
      let some : number_of r ≡ 0 → ⊥ = some_number r in
      record {
        verdict = v;
        down = λ e. absurd (some e);
        up = λ e. absurd (some e);
        low_beyond = λ e. refl;
        high_beyond = λ e. refl;
        low_kept = λ n. refl;
        high_kept = λ n. refl;
        low_length = refl;
        high_length = refl;
      }

  pub delays_rounded : {low' high' : List ℤ} →
      Room (length ds) (length Ds) (length low) (length high) →
      ((i : ℕ) → i < length ds → DelaysInside ds Ds i) →
      1 ≤ q →
      q ≤ 1000 →
      Filled (pos 0) (length ds) (λ i. Down q (get_or ds i (pos 0))) low low' →
      length low' ≡ length low →
      Filled (pos 0) (length ds) (λ i. Up q (get_or Ds i (pos 0))) high high' →
      length high' ≡ length high →
      DelaysRounded q ds Ds low high low' high' (Ok tt)
  delays_rounded room inside positive small fl el fh eh =
      record {
        verdict = rounding_0 low high room inside positive small;
        down = λ e. fl.each;
        up = λ e. fh.each;
        low_beyond = λ e. fl.beyond;
        high_beyond = λ e. fh.beyond;
        low_kept = λ n. absurd (n refl);
        high_kept = λ n. absurd (n refl);
        low_length = el;
        high_length = eh;
      }

-- ---- one result

module _ {q : ℕ} {x y z : ℤ} where
  pub went_down_unique : WentDown q x y → WentDown q x z → y ≡ z
  went_down_unique (went_down r a) (went_down s b) = down_unique a b
  went_down_unique (went_down r a) (not_down n e) = absurd (n r)
  went_down_unique (not_down n e) (went_down r a) = absurd (n r)
  went_down_unique (not_down n e) (not_down m f) = e ∙ sym f

  pub went_up_unique : WentUp q x y → WentUp q x z → y ≡ z
  went_up_unique (went_up r a) (went_up s b) = up_unique a b
  went_up_unique (went_up r a) (not_up n e) = absurd (n r)
  went_up_unique (not_up n e) (went_up r a) = absurd (n r)
  went_up_unique (not_up n e) (not_up m f) = e ∙ sym f

module _ {q : ℕ} {ds Ds low₀ high₀ low high low' high' : List ℤ} {r r' : Result Unit Refusal} (a : DelaysRounded q ds Ds low₀ high₀ low high r) (b : DelaysRounded q ds Ds low₀ high₀ low' high' r') where
  pub round_delays_unique : (r ≡ r') × (low ≡ low') × (high ≡ high')
  round_delays_unique = go (ℕ_discrete (number_in r) 0)
    where
      numbers : (number_in r ≡ number_in r') × (place_in r ≡ place_in r')
      numbers = one_verdict (rounding_checks q ds Ds low₀ high₀) (at_zero_unique, (at_zero_unique, (lowest_unique, (step_places, tt)))) _ _ _ _ a.verdict b.verdict

      same : r ≡ r'
      same = same_result r r' numbers.0 numbers.1 (λ _ _ _ _. refl)

      go : Dec (number_in r ≡ 0) → (r ≡ r') × (low ≡ low') × (high ≡ high')
      go (yes e) =
          let f = sym numbers.0 ∙ e in (
            same,
            same_places (length ds) low low' (pos 0) (a.low_length ∙ sym b.low_length) (λ i l. down_unique (a.down e i l) (b.down f i l)) (a.low_beyond e ∙ sym (b.low_beyond f)),
            same_places (length ds) high high' (pos 0) (a.high_length ∙ sym b.high_length) (λ i l. up_unique (a.up e i l) (b.up f i l)) (a.high_beyond e ∙ sym (b.high_beyond f)),
          )
      go (no n) =
          let m : number_in r' ≡ 0 → ⊥ = λ e. n (numbers.0 ∙ e) in
          (same, a.low_kept n ∙ sym (b.low_kept m), a.high_kept n ∙ sym (b.high_kept m))
