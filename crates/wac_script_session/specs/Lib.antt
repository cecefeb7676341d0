pub mod Calls
pub mod Collections
pub mod Provided
pub mod Props
