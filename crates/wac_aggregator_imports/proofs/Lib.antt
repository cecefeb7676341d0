pub mod Filed
pub mod Listed
pub mod Places
