-- What a comparison of packages promises.
pub mod Comparing
pub mod Sides
pub mod Texts
pub mod Worlds
