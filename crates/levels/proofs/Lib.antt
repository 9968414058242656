-- The theorems about a process graph unfolded in full.
pub mod Unfolded
pub mod Folds
pub mod Sound
pub mod Outgoing
pub mod Turns
pub mod Sweeps
pub mod Sizes
pub mod Verdicts
pub mod Answers
pub mod Loops
pub mod Exists
pub mod Marks
pub mod Filling
pub mod Bridge
pub mod Stored
pub mod Splits
