-- What the contracts of the functions within cite. A reader of the promises needs none of it.
pub mod Scanning
pub mod Fields
pub mod Header
pub mod TableLines
pub mod Tabling
