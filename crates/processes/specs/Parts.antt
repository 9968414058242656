-- What the functions within promise one another: no promise of a public function speaks of it, and a reader of the promises needs none of it.
pub mod Checks
pub mod Writing
