-- What a sweep back over the levels goes through and holds: no promise of a public function speaks of it, and a reader of the promises needs none of it.
pub mod Turns
pub mod Sweep
pub mod Marks
pub mod Ways
