pub mod Advances
pub mod After
pub mod Content
pub mod HandedIn
pub mod InOrder
pub mod Served
pub mod Wit
