-- Paths as functions from an event's value to the target's. Document 02, request 7; report UW-CSE-92-11-01, section 3.
pub mod Cap
pub mod PathPair
pub mod Parts
