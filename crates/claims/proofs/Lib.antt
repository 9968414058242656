-- Laws of claims, and the theorems.
pub mod Marking
pub mod Breaking
pub mod Executions
pub mod Promises
pub mod Judging
pub mod Figures
