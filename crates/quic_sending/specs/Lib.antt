pub mod Ranges
pub mod Outcomes
pub mod Buffer
pub mod Pieces
pub mod Source
pub mod Sending
