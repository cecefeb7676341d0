pub mod Content
pub mod Parts
pub mod Pairs
pub mod Listing
pub mod Items
pub mod PartLists
pub mod Externs
