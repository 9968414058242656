-- The promises are in Claim.antt. Parts holds what the functions within say to one another.
pub mod Claim
pub mod Parts
