pub mod Crash
pub mod MemDisk
pub mod MemDiskLaws
pub mod MemPages
pub mod Streams
pub mod SureDisk
pub mod Whole
