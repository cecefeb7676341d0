pub mod FaultLemmas
pub mod DifferenceLemmas
pub mod PartLemmas
pub mod PathLemmas
