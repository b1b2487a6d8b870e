pub mod Locks
pub mod Answers
pub mod Tables
