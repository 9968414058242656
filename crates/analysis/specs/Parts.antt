-- What the contracts of the functions within cite. A reader of the promise needs none of it.
pub mod Chains
pub mod Order
pub mod Rules
pub mod Placing
pub mod Reach
pub mod Paths
pub mod Latest
pub mod Cycles
pub mod Arranged
pub mod InChains
