-- An answer in numbers.
--     answer_numbers x    == the numbers of x: those of what was found, with refusal 0; or the refusal's number and place, all else 0
-- Assumes nothing.
use Rattle.std.specs.Prelude.{Result, Ok, Err, pos}
use Rattle.refusals.specs.declared.Refusal.{Refusal}
use Rattle.refusals.specs.Numbers.{number_of, place_of}
use Rattle.separation.specs.declared.Separated.{Separated}
use Rattle.separation.specs.declared.Answer.{Answer}

-- "A refusal returns its number and place, separation 0, depths 0"
abbrev pub answer_numbers : Result Separated Refusal → Answer
answer_numbers (Ok x) = record { refusal = 0; place = 0; separation = x.separation; source_depth = x.source_depth; target_depth = x.target_depth }
answer_numbers (Err r) = record { refusal = number_of r; place = place_of r; separation = pos 0; source_depth = 0; target_depth = 0 }
