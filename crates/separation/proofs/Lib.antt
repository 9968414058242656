-- Laws that several functions' proofs cite, and the theorems about the promises.
pub mod Verdicts
pub mod Analyses
pub mod Times
pub mod Exact
pub mod Promises
pub mod Coarsely
pub mod CoarsePromises
