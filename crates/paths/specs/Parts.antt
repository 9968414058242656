-- What a sweep over the events of a graph finds: no promise of a public function speaks of it, and a reader of the promises needs none of it.
pub mod Turn
pub mod Solved
