pub mod Found
pub mod Links
pub mod Along
pub mod Releases
pub mod Versions
pub mod Pushes
pub mod Pushings
