pub mod LegCode
pub mod View
pub mod Parsing
pub mod Tokens
