pub mod Session
pub mod Streams
