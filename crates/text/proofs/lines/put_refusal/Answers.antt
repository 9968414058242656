-- `put_refusal` meets its contract: five writings, one after the other. Assumes nothing.
use Rattle.text.proofs.WrittenLines.{refused_put}
use Rattle.std.proofs.Common.{rules}
use Rattle.text.proofs.lines.put_refusal.Goals as goal

pub returns : goal.returns
returns c =
    let (room, number, place) = c.requires in
    refused_put number place (search rules) (search rules) room c.put_bytes-word.ensures c.put_natural-number.ensures c.put_byte-comma.ensures c.put_natural-last.ensures c.put_bytes.ensures
