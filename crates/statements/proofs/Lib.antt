pub mod LineLemmas
pub mod NumberLemmas
pub mod ScriptLemmas
pub mod ArgumentLemmas
pub mod ListLemmas
pub mod WordLemmas
pub mod LimitLemmas
