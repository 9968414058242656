-- The text form: its grammar, what a reading of it is, what is asked of it, and what the pair program writes. Parts holds what the functions within say to
-- one another.
pub mod Grammar
pub mod Reading
pub mod Answers
pub mod Output
pub mod Parts
