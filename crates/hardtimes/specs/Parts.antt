-- What the laws and the code of the rounds speak of. A reader of the promises needs none of it.
pub mod Gaps
