pub mod Sorted
pub mod Rows
