pub mod Views
pub mod OfStore
pub mod Flights
pub mod Steps
