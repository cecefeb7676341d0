pub mod Limits
pub mod Names
pub mod Entries
pub mod Origin
pub mod NameOrder
