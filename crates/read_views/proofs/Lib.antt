pub mod LimitLemmas
pub mod StoreLemmas
pub mod PieceLemmas
pub mod FlightLemmas
pub mod CopyLemmas
