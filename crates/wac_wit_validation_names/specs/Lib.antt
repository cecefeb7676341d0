pub mod Ambiguity
pub mod GivenNames
pub mod Once
pub mod WorldOnce
pub mod Layers
pub mod Noted
