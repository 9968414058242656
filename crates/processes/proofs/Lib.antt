-- Laws of process graphs and their unfolding, and the theorems about the promise.
pub mod Numbers
pub mod Exactly
pub mod Occurrences
pub mod Refusals
pub mod Handed
pub mod Cycles
pub mod Unique
pub mod Starts
pub mod Verdicts
pub mod Writing
