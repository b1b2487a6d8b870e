pub mod Store
pub mod Pieces
pub mod Logs
