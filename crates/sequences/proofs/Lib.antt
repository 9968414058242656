-- Laws of lists and of counting, for every crate above.
pub mod Below
pub mod Pigeonhole
pub mod Counting
pub mod Lengths
pub mod Same
pub mod Filling
