-- What the numbers of an entry stand for.
pub mod Entries
