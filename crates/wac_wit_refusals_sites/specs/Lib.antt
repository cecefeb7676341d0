pub mod Sites
pub mod Judging
pub mod TypeSites
pub mod TypeLists
pub mod Paths
pub mod Leading
