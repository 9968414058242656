-- An answer under hard deadlines in numbers.
--     hard_numbers x    == the numbers of x: those of what was found, with refusal 0; or the refusal's number and place, all else 0
-- Assumes nothing.
use Rattle.std.specs.Prelude.{Result, Ok, Err, pos}
use Rattle.refusals.specs.declared.Refusal.{Refusal}
use Rattle.refusals.specs.Numbers.{number_of, place_of}
use Rattle.deadlines.specs.declared.HardSeparated.{HardSeparated}
use Rattle.deadlines.specs.declared.HardAnswer.{HardAnswer}

-- "A refused answer holds 0 for both"; 01: "depths 0"
abbrev pub hard_numbers : Result HardSeparated Refusal → HardAnswer
hard_numbers (Ok x) = record { refusal = 0; place = 0; least = x.least; most = x.most; source_depth = x.source_depth; target_depth = x.target_depth }
hard_numbers (Err r) = record { refusal = number_of r; place = place_of r; least = pos 0; most = pos 0; source_depth = 0; target_depth = 0 }
