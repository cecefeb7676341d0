pub mod Fields
pub mod Sorts
pub mod Verdict
