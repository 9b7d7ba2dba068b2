pub mod Piece
pub mod Reassembly
pub mod Laws
pub mod Compact
pub mod Steps
