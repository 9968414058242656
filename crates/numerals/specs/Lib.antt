-- Numbers in decimal, as bytes: what stands at a place of a list of bytes, and what is written at one.
pub mod Numbers
pub mod Fields
pub mod Appending
