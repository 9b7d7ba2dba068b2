pub mod Credit
pub mod Own
pub mod Remote
pub mod SendingCredit
