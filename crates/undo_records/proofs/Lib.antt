pub mod RunLemmas
pub mod ChainLemmas
pub mod DecodeLemmas
pub mod PageLemmas
pub mod ApplyLemmas
pub mod SizeLemmas
pub mod AnswerLemmas
pub mod TestLemmas
