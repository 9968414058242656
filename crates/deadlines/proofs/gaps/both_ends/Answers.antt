-- `both_ends` meets its contract: the gaps against s and against t, put together. Assumes nothing.
use lib.Dec.{lit<}
use mir.Syntax.{w64}
use Rattle.integers.proofs.Word.{read_back}
use Rattle.deadlines.proofs.Words.{minus_back}
use Rattle.deadlines.proofs.Answers.{back_again, ends_found}
use Rattle.deadlines.proofs.gaps.both_ends.Goals as goal

pub returns-in_err-latest_gaps : goal.returns-in_err-latest_gaps
returns-in_err-latest_gaps c = absurd (back_again c.in_ok-depths.ensures.found _ c.in_err-latest_gaps.ensures)

pub returns : goal.returns
returns c =
    let there = c.in_ok-depths.ensures.found in
    let again = c.in_ok-latest_gaps.ensures.found in
    ends_found there again _ _ (minus_back 2046000001 _ (lit< tt) (again.within _ there.source_known)) (read_back w64 2046000001 _ (lit< tt) (there.within _ there.target_known))
