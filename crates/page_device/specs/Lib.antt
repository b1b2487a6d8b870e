pub mod Creating
pub mod Device
pub mod Opening
