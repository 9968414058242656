-- That the promises allow one answer, and the verdict on a question.
pub mod Unique
pub mod Counts
pub mod Question
