pub mod LinkLemmas
pub mod NearLemmas
pub mod EndLemmas
pub mod AddLemmas
pub mod BaseLemmas
pub mod RemoveLemmas
pub mod TestLemmas
