pub mod PathFacts
pub mod ScopeFacts
pub mod AllScopes
