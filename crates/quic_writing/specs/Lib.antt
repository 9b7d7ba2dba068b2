pub mod Writer
pub mod Appended
