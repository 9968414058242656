-- From what the parts promise to the promises under hard deadlines.
pub mod Words
pub mod Holding
pub mod Settling
pub mod Verdicts
pub mod Answers
pub mod Promises
pub mod Writing
