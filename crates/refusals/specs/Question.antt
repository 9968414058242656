-- The refusals of a question before any path is looked at, whose list of checks is `question_checks_to` of graphs/specs/Refusal.antt.
--     delay_limit limit    == the bound of the delays where a caller names `limit`: no delay is taken that passes 1,001,000 ("A rounded bound may pass
--                            1,000,000 by less than 1,000"), whatever the limit
-- Assumes nothing.
use Rattle.std.specs.Prelude.{ℕ, min}

abbrev pub delay_limit : ℕ → ℕ
delay_limit limit = min limit 1001000
