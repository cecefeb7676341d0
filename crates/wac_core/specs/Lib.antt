pub mod Content
pub mod Texts
