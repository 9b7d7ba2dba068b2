pub mod Assembly
pub mod Entries
pub mod Rows
pub mod Slotted
pub mod Sweeping
