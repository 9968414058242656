-- Lists and counting: what is said of numbers and lists alone.
pub mod Counted
pub mod Filled
