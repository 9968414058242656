-- Sets of pairs, by which a stretch of paths is carried as one function. Document 02, requests 7 and 14; report UW-CSE-92-11-01, section 3.
pub mod Limit
pub mod Pair
pub mod Set
pub mod Family
pub mod Held
pub mod Promise
pub mod Parts
