pub mod Planning
pub mod NewLobs
pub mod Adding
