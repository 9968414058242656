-- The promise is in Table.antt. Parts holds what the functions within say to one another.
pub mod Table
pub mod Parts
