-- The laws of numbers in decimal: read, written, and that the promises allow one result.
pub mod Cutting
pub mod Cuts
pub mod Taking
pub mod FieldLaws
pub mod Appends
pub mod Decimal
pub mod WrittenNumbers
pub mod Unique
