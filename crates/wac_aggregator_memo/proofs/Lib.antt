pub mod MemoLemmas
pub mod RenamedLemmas
pub mod Ordering
