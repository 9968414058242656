-- What the contracts of the functions within cite. A reader of the promises needs none of it.
pub mod Verdicts
pub mod Marks
