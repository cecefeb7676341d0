pub mod NameLemmas
pub mod ExternLemmas
pub mod EntryLemmas
pub mod ModuleLemmas
