pub mod Alike
pub mod Parts
