pub mod Entries
pub mod Order
pub mod Cut
pub mod Alone
pub mod Placed
