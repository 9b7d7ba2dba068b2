pub mod Counts
pub mod Fresh
pub mod Parts
pub mod Queue
pub mod Replays
pub mod Runs
pub mod Sums
pub mod Whole
