pub mod Progress
pub mod Consumed
