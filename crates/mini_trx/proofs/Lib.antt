pub mod CoherenceLemmas
pub mod DistinctLemmas
pub mod GroupLemmas
pub mod MtrLemmas
pub mod PinLemmas
pub mod PutLemmas
pub mod WritesLemmas
