pub mod Uses
pub mod Differ
