-- `separation` meets its contract: what `analysed` promises is the answer. Assumes nothing.
use mathlib.Core.Path.{refl}
use Rattle.separation.proofs.Exact.{answered_analysed}
use Rattle.separation.proofs.separation.Goals as goal

pub analysed-requires : goal.analysed-requires
analysed-requires c = refl {a = 1024}

pub returns : goal.returns
returns c = answered_analysed c.analysed.ensures
