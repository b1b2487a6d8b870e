-- A canonical encoding is as long as it is measured, stands for its tree and is no front of another.
pub mod CanonicalLemmas
pub mod LengthLemmas
pub mod RoundLemmas
