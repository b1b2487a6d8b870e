pub mod Plans
pub mod Pushes
pub mod Raises
pub mod Patches
pub mod Reads
