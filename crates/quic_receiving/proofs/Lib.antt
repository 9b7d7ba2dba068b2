pub mod Buffers
pub mod Frames
pub mod Readings
pub mod Counted
pub mod Data
pub mod Sound
