pub mod Endpoints
pub mod Truths
pub mod Promises
pub mod Asked
