pub mod Distinct
pub mod Orders
pub mod Standing
pub mod Notes
pub mod Reports
pub mod Reported
pub mod Itself
pub mod GivenLemmas
