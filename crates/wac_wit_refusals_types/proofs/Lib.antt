pub mod TwiceFacts
pub mod NameFacts
pub mod HandleFacts
pub mod ConstructorFacts
pub mod BorrowFacts
