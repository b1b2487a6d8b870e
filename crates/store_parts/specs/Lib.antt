pub mod Stored
pub mod Standing
pub mod Shows
pub mod Keeps
pub mod Logs
pub mod Appends
