-- Long runs. Document 02, requests 1 and 7; report UW-CSE-92-11-01, sections 2.2 and 3.
pub mod Full
pub mod Long
pub mod Parts
