-- That two results allowed to an entry are equal.
pub mod Unique
