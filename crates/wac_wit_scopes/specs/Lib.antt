pub mod WitSources
pub mod Scopes
pub mod Naming
pub mod AllScopes
pub mod Parsed
