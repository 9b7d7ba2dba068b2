pub mod Lasts
pub mod Merging
pub mod Numbers
pub mod Sets
