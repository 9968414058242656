-- An answer in numbers.
--     unfolded_numbers x    == the numbers of x: both counts, with refusal 0; or the refusal's number and place, all else 0
-- Assumes nothing.
use Rattle.std.specs.Prelude.{Result, Ok, Err}
use Rattle.refusals.specs.declared.Refusal.{Refusal}
use Rattle.refusals.specs.Numbers.{number_of, place_of}
use Rattle.processes.specs.declared.Unfolding.{Unfolding}
use Rattle.processes.specs.declared.Unfolded.{Unfolded}

-- "The answer carries the event count 1 + p × K and the rule count, both 0 when refused"
abbrev pub unfolded_numbers : Result Unfolding Refusal → Unfolded
unfolded_numbers (Ok x) = record { refusal = 0; place = 0; events = x.events; rules = x.rules }
unfolded_numbers (Err r) = record { refusal = number_of r; place = place_of r; events = 0; rules = 0 }
