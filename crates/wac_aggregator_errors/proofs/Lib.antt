pub mod Passing
pub mod Saying
pub mod Apart
pub mod Cores
pub mod Reading
pub mod Turns
pub mod Ways
