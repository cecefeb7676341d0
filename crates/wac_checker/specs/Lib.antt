pub mod Known
pub mod Verdict
pub mod Cache
pub mod Believed
pub mod Checker
pub mod Walk
pub mod Compared
