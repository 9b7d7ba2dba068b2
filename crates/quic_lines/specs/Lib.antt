pub mod Arguments
pub mod Field
pub mod Grammar
pub mod Line
