pub mod BitLemmas
pub mod MapLemmas
pub mod UseLemmas
pub mod SystemLemmas
