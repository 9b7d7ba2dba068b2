pub mod State
pub mod Errors
pub mod Counted
pub mod Data
pub mod Half
pub mod Calls
