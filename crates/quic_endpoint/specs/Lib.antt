pub mod Ends
pub mod Receiving
pub mod Reports
pub mod Emitting
pub mod Shown
