pub mod CrashLemmas
pub mod OverlaidLemmas
pub mod MemDiskLemmas
pub mod ReplayLemmas
