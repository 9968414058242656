-- Times that meet every rule, and what is asked of them. Document 02, request 4. Parts holds what the rounds over the rules end with.
pub mod HardTimes
pub mod Parts
