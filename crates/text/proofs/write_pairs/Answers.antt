-- `write_pairs` meets its contract: a list that is too short is refused, and into another `put_output` writes. Assumes nothing.
use Rattle.text.proofs.PairOutput.{list_refused, output_written}
use Rattle.text.proofs.write_pairs.Goals as goal

pub returns-then-out-lt-OUTPUT_PLACES : goal.returns-then-out-lt-OUTPUT_PLACES
returns-then-out-lt-OUTPUT_PLACES c = list_refused c.if-out-lt-OUTPUT_PLACES.true

pub returns : goal.returns
returns c = output_written c.if-out-lt-OUTPUT_PLACES.false c.put_output.ensures
