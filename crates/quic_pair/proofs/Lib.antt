pub mod Alone
pub mod Beginnings
pub mod Emits
pub mod Handing
pub mod Honest
pub mod Reporting
pub mod Sessions
pub mod Deliveries
