pub mod RowLemmas
pub mod PlanLemmas
pub mod NewLobLemmas
pub mod AddLemmas
pub mod UseLemmas
pub mod TestLemmas
