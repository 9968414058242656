-- Laws of event graphs, for every crate above.
pub mod Cycle
pub mod Closed
pub mod Paths
pub mod Rank
pub mod Limits
pub mod Greatest
pub mod Unique
pub mod Refusals
