-- The laws of the text form.
pub mod PartLaws
pub mod RowLaws
pub mod WholeRow
pub mod Texts
pub mod Unique
pub mod Progress
pub mod Writing
pub mod Counts
pub mod Verdicts
pub mod WrittenNumbers
pub mod WrittenLines
pub mod PairOrder
pub mod Handed
pub mod Places
pub mod PairOutput
pub mod Fitting
pub mod Answered
