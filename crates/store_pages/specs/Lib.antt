pub mod Changes
pub mod Pushes
pub mod Runs
pub mod Oldest
pub mod Lobs
pub mod Logs
pub mod Stands
