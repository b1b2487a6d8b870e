pub mod CountLemmas
pub mod FrameLemmas
pub mod MoveLemmas
pub mod KeepLemmas
