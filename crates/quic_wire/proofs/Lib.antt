pub mod Steps
pub mod Numbers
pub mod Read
pub mod Joins
pub mod Written
pub mod Within
pub mod Whole
