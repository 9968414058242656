-- Notions of whole numbers that the statements above rest on.
pub mod Within
