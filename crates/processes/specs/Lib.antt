-- Process graphs and their unfolding. Document 01, section "Process graphs and their unfolding"; report UW-CSE-92-11-01, sections 2.1 and 2.2.
pub mod Process
pub mod Lists
pub mod Numbers
pub mod Ways
pub mod Unfolding
pub mod Starts
pub mod Parts
