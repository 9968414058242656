-- The answers that the entries' numbers stand for: the number that is returned, and those that are put where the caller says.
--     answer_of      == an answer of the analysis, of refusal, place, separation and the depths of source and target
--     hard_answer_of  == an answer under hard deadlines, of refusal, place, least, most and the depths of source and target
--     unfolded_of    == an answer of the unfolding, of refusal, place and the two counts
--     pairs_answer_of == an answer to a writing of the pairs, of refusal, place and the number of bytes
--     judged_of      == the numbers of a judgement on a claim: refusal, place, verdict and broken event
-- Assumes nothing.
use Rattle.std.specs.Prelude.{ℕ, ℤ}
use Rattle.separation.specs.declared.Answer.{Answer}
use Rattle.deadlines.specs.declared.HardAnswer.{HardAnswer}
use Rattle.processes.specs.declared.Unfolded.{Unfolded}
use Rattle.claims.specs.declared.Numbers.{Numbers}
use Rattle.text.specs.declared.PairsAnswer.{PairsAnswer}

abbrev pub answer_of : ℕ → ℕ → ℤ → ℕ → ℕ → Answer
answer_of k p x d e = record { refusal = k; place = p; separation = x; source_depth = d; target_depth = e }

abbrev pub hard_answer_of : ℕ → ℕ → ℤ → ℤ → ℕ → ℕ → HardAnswer
hard_answer_of k p x y d e = record { refusal = k; place = p; least = x; most = y; source_depth = d; target_depth = e }

abbrev pub unfolded_of : ℕ → ℕ → ℕ → ℕ → Unfolded
unfolded_of k p n r = record { refusal = k; place = p; events = n; rules = r }

abbrev pub pairs_answer_of : ℕ → ℕ → ℕ → PairsAnswer
pairs_answer_of k p b = record { refusal = k; place = p; bytes = b }

abbrev pub judged_of : ℕ → ℕ → ℕ → ℕ → Numbers
judged_of k p v e = record { refusal = k; place = p; verdict = v; event = e }
