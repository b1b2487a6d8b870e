pub mod PathText
pub mod Quotes
