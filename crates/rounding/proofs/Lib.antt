-- The theorems about rounded graphs, and about what the functions promise.
pub mod Multiples
pub mod Outward
pub mod Promises
pub mod Costs
