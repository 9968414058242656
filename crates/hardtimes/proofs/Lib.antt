-- The theorems about hard times.
pub mod Arcs
pub mod Rules
pub mod Gaps
pub mod Lowering
pub mod Tight
pub mod Unique
pub mod Nearness
