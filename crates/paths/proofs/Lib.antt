-- The theorems about the pairs of paths.
pub mod Caps
pub mod Arrivals
pub mod PathPairs
pub mod Carried
pub mod Turn
pub mod Closed
pub mod Sizes
pub mod Overfull
pub mod Solved
