-- What the contracts of the functions within cite. A reader of the promises needs none of it.
pub mod Rounds
pub mod Gaps
pub mod Lists
