pub mod DecideLemmas
pub mod ToldLemmas
pub mod CutLemmas
pub mod RunLemmas
