pub mod Checking
pub mod OriginClauses
pub mod WorldChecking
pub mod WorldClauses
pub mod Validated
pub mod Listing
