-- `outside_interval` meets its contract: where both searches find a template, the lesser of the two. Assumes nothing.
use Rattle.processes.proofs.Verdicts.{lesser_found}
use Rattle.processes.proofs.input.outside_interval.Goals as goal

pub returns-in-Some-Some : goal.returns-in-Some-Some
returns-in-Some-Some c =
    rw c.min.ensures (lesser_found c.requires (rw c.in-Some-Some.is-0 at c.outside_delay-delays.ensures) (rw c.in-Some-Some.is-1 at c.outside_start-starts.ensures))
