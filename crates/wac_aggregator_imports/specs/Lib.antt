pub mod Import
pub mod Left
pub mod Places
