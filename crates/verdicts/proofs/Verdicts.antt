-- Laws of verdicts, over any list of checks and any Rest.
--     OnePlace At, OnePlaces cs        At holds of one place at most; each check of the list does
--     OneVerdict Rest                  Rest gives one number and place at most
--     at_zero                          what holds, holds at place 0
--     lowest_unique, at_zero_unique    the lowest place is one; place 0 is one
--     accepted_unique, then_unique     a list each of whose checks has one place gives one number and place, where Rest does
--     one_verdict                      and where nothing is left to Rest
--     Misses At, NoneApplies cs        At holds of no place; no check of the list applies
--     misses_at_zero, holds_not        what does not hold applies at no place, both ways
--     passed_all, rest_of              where no check of the list applies, the verdict is that of Rest, both ways
--     given_after                      a check is given where none before it applies
--     then_more, then_more_after       another Rest; only what no check of the list refuses is asked of it
--     front_given                      a refusal by the list is given, whatever Rest says
--     front_or_rest                    a verdict is by the list, or no check of it applies and it is by Rest
--     Refusals cs                      no check of the list has number 0
--     none_accepted, accepted_none     number 0 is given where no check applies, and only there
--     accepted_place                   and with it place 0
--     Places Q cs, then_place          Q holds of the number and every place of every check, and of what Rest gives: then of what is given
--     PlacesAfter Q cs, then_place_after    the same, where of each check only what none before it refuses is asked
--     OneOf j ks, verdict_number       j is one of ks, or 0: the number given is one of the list's, or 0
--     among ks j, one_of               the same as a test, which computes
--     Alike cs ds, alike_refl, then_alike          two lists, check by check of one number, that apply at the same places give the same verdict
--     none_lowest                      what has no lowest number holds of none
-- Assumes nothing.
use mathlib.Core.Path.{◌≡◌, refl}
use mathlib.Core.Logic.{◌⊎◌, inl, inr, ⊎_elim}
use mathlib.Core.Bool.{Bool, true, false, cond}
use mathlib.Core.List.{List, [], ◌∷◌, ◌++◌, map}
use Prim.Native.Nat.{ℕ, zero, suc, ◌<◌}
use native.Mathlib.Nat.{not-suc-le-zero}
use native.Mathlib.Omega.{arith}
use lib.Dec.{T, eqb, eqb→eq}
use Rattle.verdicts.specs.Verdict.{Check, check, First, given, passed, Accepted, accepted, FirstThen, FirstOf, AtZero, Lowest}

-- ---- one place, one verdict

abbrev pub OnePlace : (ℕ → Type 0) → Type 0
OnePlace At = (p q : ℕ) → At p → At q → p ≡ q

abbrev pub OnePlaces : List Check → Type 0
OnePlaces [] = Unit {0}
OnePlaces (c ∷ cs) = OnePlace c.At × OnePlaces cs

abbrev pub OneVerdict : (ℕ → ℕ → Type 0) → Type 0
OneVerdict Rest = (i p j q : ℕ) → Rest i p → Rest j q → (i ≡ j) × (p ≡ q)

pub lowest_unique : {A : ℕ → Type 0} → OnePlace (Lowest A)
lowest_unique p q a b =
    let not_below : q < p → ⊥ = λ l. a.lowest q l b.holds in
    let not_above : p < q → ⊥ = λ l. b.lowest p l a.holds in
    omega arith

pub at_zero : {A : Type 0} → A → AtZero A 0
at_zero h = record { zero_place = refl; holds = h }

pub at_zero_unique : {A : Type 0} → OnePlace (AtZero A)
at_zero_unique p q a b = omega arith

pub accepted_unique : OneVerdict Accepted
accepted_unique i p j q accepted accepted = (refl, refl)

first_unique : {k : ℕ} {At : ℕ → Type 0} {Rest : ℕ → ℕ → Type 0} → OnePlace At → OneVerdict Rest → OneVerdict (First k At Rest)
first_unique one rest i p j q (given a) (given b) = (refl, one p q a b)
first_unique one rest i p j q (given a) (passed none b) = absurd (none p a)
first_unique one rest i p j q (passed none a) (given b) = absurd (none q b)
first_unique one rest i p j q (passed none a) (passed none' b) = rest i p j q a b

pub then_unique : (cs : List Check) {Rest : ℕ → ℕ → Type 0} → OnePlaces cs → OneVerdict Rest → OneVerdict (FirstThen cs Rest)
then_unique [] one rest = rest
then_unique (c ∷ cs) one rest = first_unique one.0 (then_unique cs one.1 rest)

pub one_verdict : (cs : List Check) → OnePlaces cs → OneVerdict (FirstOf cs)
one_verdict cs one = then_unique cs one accepted_unique

-- ---- what applies

abbrev pub Misses : (ℕ → Type 0) → Type 0
Misses At = (p : ℕ) → At p → ⊥

abbrev pub NoneApplies : List Check → Type 0
NoneApplies [] = Unit {0}
NoneApplies (c ∷ cs) = Misses c.At × NoneApplies cs

pub misses_at_zero : {A : Type 0} → (A → ⊥) → Misses (AtZero A)
misses_at_zero none p a = none a.holds

pub holds_not : {A : Type 0} → Misses (AtZero A) → A → ⊥
holds_not none h = none 0 (at_zero h)

pub passed_all : (cs : List Check) (Rest : ℕ → ℕ → Type 0) (j p : ℕ) → NoneApplies cs → Rest j p → FirstThen cs Rest j p
passed_all [] Rest j p none v = v
passed_all (c ∷ cs) Rest j p none v = passed none.0 (passed_all cs Rest j p none.1 v)

pub given_after : (cs : List Check) (c : Check) (ds : List Check) (Rest : ℕ → ℕ → Type 0) (p : ℕ) → NoneApplies cs → c.At p → FirstThen (cs ++ (c ∷ ds)) Rest c.number p
given_after [] c ds Rest p none at = given at
given_after (b ∷ cs) c ds Rest p none at = passed none.0 (given_after cs c ds Rest p none.1 at)

first_rest : {k : ℕ} {At : ℕ → Type 0} {Rest : ℕ → ℕ → Type 0} {j p : ℕ} → Misses At → First k At Rest j p → Rest j p
first_rest none (given {p = p} a) = absurd (none p a)
first_rest none (passed _ r) = r

pub rest_of : (cs : List Check) (Rest : ℕ → ℕ → Type 0) (j p : ℕ) → NoneApplies cs → FirstThen cs Rest j p → Rest j p
rest_of [] Rest j p none v = v
rest_of (c ∷ cs) Rest j p none v = rest_of cs Rest j p none.1 (first_rest none.0 v)

first_more : {k : ℕ} {At : ℕ → Type 0} {Rest Rest' : ℕ → ℕ → Type 0} {j p : ℕ} → (Rest j p → Rest' j p) → First k At Rest j p → First k At Rest' j p
first_more f (given a) = given a
first_more f (passed n r) = passed n (f r)

pub then_more : (cs : List Check) (Rest Rest' : ℕ → ℕ → Type 0) (j p : ℕ) → (Rest j p → Rest' j p) → FirstThen cs Rest j p → FirstThen cs Rest' j p
then_more [] Rest Rest' j p f v = f v
then_more (c ∷ cs) Rest Rest' j p f v = first_more (then_more cs Rest Rest' j p f) v

pub then_more_after : (cs : List Check) (Rest Rest' : ℕ → ℕ → Type 0) (j p : ℕ) → (NoneApplies cs → Rest j p → Rest' j p) → FirstThen cs Rest j p → FirstThen cs Rest' j p
then_more_after [] Rest Rest' j p f v = f tt v
then_more_after (c ∷ cs) Rest Rest' j p f (given a) = given a
then_more_after (c ∷ cs) Rest Rest' j p f (passed none r) = passed none (then_more_after cs Rest Rest' j p (λ others. f (none, others)) r)

pub not_accepted : {A : Type 0} {j p : ℕ} → (j ≡ 0 → ⊥) → Accepted j p → A
not_accepted some accepted = absurd (some refl)

pub front_given : (cs : List Check) (Rest : ℕ → ℕ → Type 0) (j p : ℕ) → (j ≡ 0 → ⊥) → FirstOf cs j p → FirstThen cs Rest j p
front_given cs Rest j p some v = then_more cs Accepted Rest j p (not_accepted some) v

pub front_or_rest : (cs : List Check) (Rest : ℕ → ℕ → Type 0) (j p : ℕ) → FirstThen cs Rest j p → (FirstOf cs j p) ⊎ (NoneApplies cs × Rest j p)
front_or_rest [] Rest j p v = inr (tt, v)
front_or_rest (c ∷ cs) Rest j p (given a) = inl (given a)
front_or_rest (c ∷ cs) Rest j p (passed none r) = on (front_or_rest cs Rest j p r)
  where
    on : (FirstOf cs j p) ⊎ (NoneApplies cs × Rest j p) → (First c.number c.At (FirstOf cs) j p) ⊎ ((Misses c.At × NoneApplies cs) × Rest j p)
    on (inl front) = inl (passed none front)
    on (inr rest) = inr ((none, rest.0), rest.1)

abbrev pub Refusals : List Check → Type 0
Refusals [] = Unit {0}
Refusals (c ∷ cs) = (0 < c.number) × Refusals cs

pub none_accepted : (cs : List Check) → NoneApplies cs → FirstOf cs 0 0
none_accepted cs none = passed_all cs Accepted 0 0 none accepted

first_none : {k : ℕ} {At : ℕ → Type 0} {Rest : ℕ → ℕ → Type 0} {j p : ℕ} → 0 < k → j ≡ 0 → First k At Rest j p → Misses At × Rest j p
first_none l e (given a) = absurd (let no : ⊥ = omega arith in no)
first_none l e (passed none r) = (none, r)

pub accepted_none : (cs : List Check) (Rest : ℕ → ℕ → Type 0) → Refusals cs → (j p : ℕ) → j ≡ 0 → FirstThen cs Rest j p → NoneApplies cs × Rest j p
accepted_none [] Rest numbers j p e v = (tt, v)
accepted_none (c ∷ cs) Rest numbers j p e v =
    let (none, r) = first_none numbers.0 e v in
    let (rest, at) = accepted_none cs Rest numbers.1 j p e r in
    ((none, rest), at)

zero_accepted : {j p : ℕ} → Accepted j p → p ≡ 0
zero_accepted accepted = refl

pub accepted_place : (cs : List Check) → Refusals cs → (j p : ℕ) → j ≡ 0 → FirstOf cs j p → p ≡ 0
accepted_place cs numbers j p e v = zero_accepted (accepted_none cs Accepted numbers j p e v).1

-- ---- which number, which place

abbrev pub Places : (ℕ → ℕ → Type 0) → List Check → Type 0
Places Q [] = Unit {0}
Places Q (c ∷ cs) = ((p : ℕ) → c.At p → Q c.number p) × Places Q cs

pub then_place : (Q : ℕ → ℕ → Type 0) (cs : List Check) (Rest : ℕ → ℕ → Type 0) (j p : ℕ) → Places Q cs → (Rest j p → Q j p) → FirstThen cs Rest j p → Q j p
then_place Q [] Rest j p each rest v = rest v
then_place Q (c ∷ cs) Rest j p each rest (given a) = each.0 p a
then_place Q (c ∷ cs) Rest j p each rest (passed none r) = then_place Q cs Rest j p each.1 rest r

abbrev pub PlacesAfter : (ℕ → ℕ → Type 0) → List Check → Type 0
PlacesAfter Q [] = Unit {0}
PlacesAfter Q (c ∷ cs) = ((p : ℕ) → c.At p → Q c.number p) × (Misses c.At → PlacesAfter Q cs)

pub then_place_after : (Q : ℕ → ℕ → Type 0) (cs : List Check) (Rest : ℕ → ℕ → Type 0) (j p : ℕ) → PlacesAfter Q cs → (NoneApplies cs → Rest j p → Q j p) → FirstThen cs Rest j p → Q j p
then_place_after Q [] Rest j p each rest v = rest tt v
then_place_after Q (c ∷ cs) Rest j p each rest (given a) = each.0 p a
then_place_after Q (c ∷ cs) Rest j p each rest (passed none r) = then_place_after Q cs Rest j p (each.1 none) (λ others. rest (none, others)) r

abbrev pub OneOf : ℕ → List ℕ → Type 0
OneOf j [] = j ≡ 0
OneOf j (k ∷ ks) = (j ≡ k) ⊎ OneOf j ks

abbrev pub numbers : List Check → List ℕ
numbers cs = map (λ (c : Check). c.number) cs

is_zero : {j p : ℕ} → Accepted j p → j ≡ 0
is_zero accepted = refl

pub verdict_number : (cs : List Check) (j p : ℕ) → FirstOf cs j p → OneOf j (numbers cs)
verdict_number [] j p v = is_zero v
verdict_number (c ∷ cs) j p (given a) = inl refl
verdict_number (c ∷ cs) j p (passed none r) = inr (verdict_number cs j p r)

abbrev pub among : List ℕ → ℕ → Bool
among [] j = eqb j 0
among (k ∷ ks) j = cond (eqb j k) true (among ks j)

either : (a b : Bool) → T (cond a true b) → T a ⊎ T b
either true b t = inl tt
either false b t = inr t

pub one_of : (ks : List ℕ) (j : ℕ) → T (among ks j) → OneOf j ks
one_of [] j t = eqb→eq j 0 t
one_of (k ∷ ks) j t = ⊎_elim (λ h. inl (eqb→eq j k h)) (λ h. inr (one_of ks j h)) (either (eqb j k) (among ks j) t)

-- ---- two lists that say the same

pub data Alike : List Check → List Check → Type 1 where
  none_alike : Alike [] []
  more_alike : {k : ℕ} {At At' : ℕ → Type 0} {cs ds : List Check} → ((p : ℕ) → At p → At' p) → ((p : ℕ) → At' p → At p) → Alike cs ds → Alike (check k At ∷ cs) (check k At' ∷ ds)

pub alike_refl : (cs : List Check) → Alike cs cs
alike_refl [] = none_alike
alike_refl (c ∷ cs) = more_alike (λ p a. a) (λ p a. a) (alike_refl cs)

first_alike : {k : ℕ} {At At' : ℕ → Type 0} {Rest Rest' : ℕ → ℕ → Type 0} {j p : ℕ} → ((q : ℕ) → At q → At' q) → ((q : ℕ) → At' q → At q) → (Rest j p → Rest' j p) → First k At Rest j p → First k At' Rest' j p
first_alike f b r (given {p = p} a) = given (f p a)
first_alike f b r (passed none v) = passed (λ q a. none q (b q a)) (r v)

pub then_alike : {cs ds : List Check} → Alike cs ds → (Rest : ℕ → ℕ → Type 0) (j p : ℕ) → FirstThen cs Rest j p → FirstThen ds Rest j p
then_alike none_alike Rest j p v = v
then_alike (more_alike f b rest) Rest j p v = first_alike f b (λ w. then_alike rest Rest j p w) v

-- ---- the lowest

-- if it held of a number, it would have a lowest below that one
none_below : (A : ℕ → Type 0) → ((p : ℕ) → Lowest A p → ⊥) → (n i : ℕ) → i < n → A i → ⊥
none_below A none zero i l a = absurd (not-suc-le-zero l)
none_below A none (suc n) i l a = none i (record { holds = a; lowest = λ q below. none_below A none n q (let m : q < n = omega arith in m) })

pub none_lowest : {A : ℕ → Type 0} → ((p : ℕ) → Lowest A p → ⊥) → (k : ℕ) → A k → ⊥
none_lowest {A} none k a = none_below A none (suc k) k (let l : k < suc k = omega arith in l) a
