-- `places` meets its contract. Assumes nothing.
use Rattle.numerals.proofs.Decimal.{natural_length}
use Rattle.numerals.proofs.places.Goals as goal

pub returns-in-Some : goal.returns-in-Some
returns-in-Some c = λ bs w. natural_length _ c.in-Some.ensures.power_le c.in-Some.ensures.next_power_gt w
