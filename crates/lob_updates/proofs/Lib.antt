pub mod PlanLemmas
pub mod PushLemmas
pub mod RaiseLemmas
pub mod ReadLemmas
pub mod StoodLemmas
pub mod PatchLemmas
pub mod TestLemmas
