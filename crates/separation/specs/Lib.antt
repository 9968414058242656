-- The promises are in Promise.antt and Coarse.antt. Parts holds what the functions within say to one another.
pub mod Numbers
pub mod Promise
pub mod Coarse
pub mod Parts
