-- Lemmas that proofs of several functions cite.
pub mod Counterparts
pub mod Found
pub mod Items
pub mod Names
pub mod Pairwise
pub mod Reports
pub mod TextLemmas
pub mod Running
pub mod Stable
pub mod TreeRuns
