-- Event graphs, as document 01, section "Event graphs", has them, and the refusals that speak of a graph alone.
pub mod Graph
pub mod Lists
pub mod Path
pub mod Limits
pub mod Refusal
