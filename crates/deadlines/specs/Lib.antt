-- The promise is in Promise.antt, over the numbers of Numbers.antt. Parts holds what the functions within say to one another.
pub mod Numbers
pub mod Promise
pub mod Parts
