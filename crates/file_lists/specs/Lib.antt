pub mod Changes
pub mod Links
pub mod Near
pub mod Strange
