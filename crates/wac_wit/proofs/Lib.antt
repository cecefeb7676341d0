pub mod Listing
pub mod Listings
pub mod Misread
