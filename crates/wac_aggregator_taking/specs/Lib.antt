pub mod Takes
pub mod Growing
pub mod Serving
pub mod Refused
pub mod Members
pub mod Steps
