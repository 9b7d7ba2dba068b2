pub mod Queues
pub mod Turns
pub mod Sizes
pub mod Frames
