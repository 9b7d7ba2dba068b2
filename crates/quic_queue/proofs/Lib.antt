pub mod Comparing
pub mod Lines
pub mod Changes
pub mod Copies
pub mod Tops
