pub mod ExternLemmas
