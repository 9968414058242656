-- Laws of verdicts, and of what a search for the lowest finds.
pub mod Verdicts
pub mod Searches
