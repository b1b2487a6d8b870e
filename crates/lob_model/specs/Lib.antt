pub mod Pieces
pub mod Places
pub mod Lobs
pub mod Begin
pub mod Search
pub mod Changes
pub mod Rows
