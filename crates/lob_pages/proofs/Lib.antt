pub mod ByteLemmas
pub mod EntryLemmas
pub mod FirstLemmas
pub mod TestLemmas
