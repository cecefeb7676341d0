pub mod Items
pub mod Bounded
pub mod Built
pub mod Memo
pub mod Runs
pub mod Reads
pub mod Told
pub mod Known
