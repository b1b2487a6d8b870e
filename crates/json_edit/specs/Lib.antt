pub mod Acts
pub mod Places
pub mod Edits
pub mod EditCode
