-- The refusals by their numbers. Document 01, section "Refusal numbers": each row of the table has a number, and says what its place is.
--     number_of r, place_of r     == the number of refusal r, and its place: 0 where it has none
--     number_in x, place_in x     == the same of a result; 0 and 0 where it is no refusal
--     Refuses checks x            == x is the first refusal that applies of these checks, or none where none does
-- Assumes nothing.
use Rattle.std.specs.Prelude.{Result, Ok, Err, List, ℕ}
use Rattle.verdicts.specs.Verdict.{Check, FirstOf}
use Rattle.refusals.specs.declared.Refusal.{Refusal}
use Rattle.refusals.specs.declared.Refusal.TheVariants.{BytesOutside, UnknownEvent, DelayOutside, UnknownSource, UnknownTarget, Cycle, Unreached, MarkOutside, BrokenRow, StepOutside, NoHardTimes, EventsOutside, RulesOutside, ShortList, CopiesOutside}

abbrev pub number_of : Refusal → ℕ
number_of BytesOutside = 1
number_of (UnknownEvent i) = 2
number_of (DelayOutside i) = 3
number_of UnknownSource = 4
number_of UnknownTarget = 4
number_of (Cycle v) = 5
number_of (Unreached v) = 6
number_of (MarkOutside j) = 7
number_of (BrokenRow k) = 8
number_of (StepOutside q) = 9
number_of NoHardTimes = 10
number_of EventsOutside = 21
number_of RulesOutside = 22
number_of ShortList = 23
number_of CopiesOutside = 24

abbrev pub place_of : Refusal → ℕ
place_of BytesOutside = 0
place_of (UnknownEvent i) = i
place_of (DelayOutside i) = i
place_of UnknownSource = 0
place_of UnknownTarget = 1
place_of (Cycle v) = v
place_of (Unreached v) = v
place_of (MarkOutside j) = j
place_of (BrokenRow k) = k
place_of (StepOutside q) = q
place_of NoHardTimes = 0
place_of EventsOutside = 0
place_of RulesOutside = 0
place_of ShortList = 0
place_of CopiesOutside = 0

-- "0, no refusal"
abbrev pub number_in : {T : Type 0} → Result T Refusal → ℕ
number_in (Ok x) = 0
number_in (Err r) = number_of r

abbrev pub place_in : {T : Type 0} → Result T Refusal → ℕ
place_in (Ok x) = 0
place_in (Err r) = place_of r

abbrev pub Refuses : {T : Type 0} → List Check → Result T Refusal → Type 0
Refuses checks x = FirstOf checks (number_in x) (place_in x)
