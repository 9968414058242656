-- The theorems about executions.
pub mod Rules
pub mod Latest
pub mod Readings
pub mod Schedules
pub mod Unique
pub mod Rounds
pub mod Times
pub mod Same
pub mod Nearness
pub mod Widening
pub mod Sizes
