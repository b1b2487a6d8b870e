pub mod Standing
pub mod Begins
pub mod Commits
pub mod Keeping
pub mod Changes
pub mod Plans
