-- Laws that several functions' proofs cite, and the theorem about the promise.
pub mod Walk
pub mod Places
pub mod Placement
pub mod MPass
pub mod ReachPass
pub mod LatestPass
pub mod Marking
pub mod Searching
pub mod Arranging
pub mod Promises
pub mod PullLaws
pub mod PushLaws
pub mod ServeLaws
pub mod OrderEventsLaws
pub mod TakeRulesLaws
pub mod Extremes
