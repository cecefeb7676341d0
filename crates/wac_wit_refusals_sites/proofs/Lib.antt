pub mod TypeFacts
pub mod WrittenFacts
pub mod Pushed
pub mod JudgeFacts
pub mod Walks
pub mod Known
pub mod PathPlaces
pub mod Versions
