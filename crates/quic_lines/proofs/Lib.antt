pub mod Again
pub mod Fields
pub mod Numerals
pub mod Parts
pub mod Texts
pub mod Verbs
