pub mod DeviceLemmas
pub mod TearLemmas
pub mod OpenLemmas
pub mod CreateLemmas
pub mod NewLemmas
