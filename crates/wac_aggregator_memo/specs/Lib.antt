pub mod Memo
pub mod Renamed
pub mod EntryOrder
