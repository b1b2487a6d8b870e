pub mod Records
pub mod Next
pub mod Seeks
pub mod Lent
pub mod Reads
pub mod Pieces
