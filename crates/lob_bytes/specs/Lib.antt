pub mod Reads
pub mod Begin
pub mod Frees
pub mod Growth
pub mod Freeing
