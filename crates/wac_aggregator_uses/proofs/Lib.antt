pub mod UseLists
pub mod UseLemmas
pub mod Users
