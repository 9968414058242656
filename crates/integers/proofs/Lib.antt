-- Laws about whole numbers and machine words, for every crate above.
pub mod Integer
pub mod Word
pub mod Division
