pub mod Ownership
pub mod Sessions
