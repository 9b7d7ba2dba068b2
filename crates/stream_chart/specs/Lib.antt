pub mod Planned
pub mod Sampled
