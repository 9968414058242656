-- The proof of document 01's figures.
pub mod Tests
pub mod Certificate
pub mod Checked
pub mod Roundings
pub mod Unfoldings
pub mod Passed
pub mod HardWays
pub mod Loops
pub mod Figures
