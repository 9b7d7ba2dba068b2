mod Counted
pub mod Told
