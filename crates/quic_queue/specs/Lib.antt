pub mod SendOrder
pub mod Levels
