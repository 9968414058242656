-- Laws of limits, pairs, sets of pairs and the families that they stand for.
pub mod Limits
pub mod Pairs
pub mod Sets
pub mod Covers
pub mod Values
pub mod Operations
pub mod Selection
pub mod Insertion
pub mod Points
pub mod Holding
pub mod Members
pub mod Choosing
pub mod Candidates
pub mod Keeping
pub mod Reaching
pub mod Promises
