pub mod Ids
pub mod Pending
pub mod Queueing
pub mod Settling
pub mod Lending
