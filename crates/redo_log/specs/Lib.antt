pub mod Logs
pub mod Stages
pub mod Switches
pub mod Scans
