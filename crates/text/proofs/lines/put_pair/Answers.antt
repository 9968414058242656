-- `put_pair` meets its contract: eight writings, one after the other. Assumes nothing.
use Rattle.text.proofs.WrittenLines.{line_put}
use Rattle.text.proofs.lines.put_pair.Goals as goal

pub returns : goal.returns
returns c =
    line_put _ _ _ _ _ c.requires c.put_natural-first.ensures c.put_byte-comma.ensures c.put_natural-second.ensures c.put_byte-comma-2.ensures
    c.put_integer-third.ensures
    c.put_byte-comma-3.ensures
    c.put_integer-last.ensures
    c.put_bytes.ensures
