pub mod Standing
pub mod Lobs
pub mod Touched
pub mod Reached
pub mod Runs
