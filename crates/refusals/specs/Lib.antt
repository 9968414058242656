-- The refusals that can be given before any path is looked at.
pub mod Numbers
pub mod Faults
pub mod Question
