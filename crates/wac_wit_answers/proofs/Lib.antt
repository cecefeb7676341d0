pub mod CallLemmas
pub mod CompatLemmas
