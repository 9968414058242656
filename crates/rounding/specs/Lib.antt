-- Rounding outward to steps of q. Document 01, section "Coarse form". The promises are in Promise.antt; Parts holds what the functions within say to one
-- another.
pub mod Rounding
pub mod Promise
pub mod Parts
