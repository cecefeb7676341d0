pub mod Texts
pub mod Said
pub mod Clashes
pub mod Found
