-- What is read stands, and what stands is read; following a path through the bytes.
pub mod ReadLemmas
pub mod StandLemmas
pub mod CursorLemmas
