pub mod Reached
pub mod ComingFacts
pub mod SoughtFacts
pub mod NeededFacts
pub mod WorldFacts
