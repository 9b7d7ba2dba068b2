pub mod Ids
pub mod Numbers
pub mod Offsets
pub mod Chunks
