pub mod Map
pub mod Bits
pub mod System
pub mod Answers
