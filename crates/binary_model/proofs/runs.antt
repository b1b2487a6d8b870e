-- Runs of differing places lead from the old bytes to the new ones and back, and are maximal.
pub mod RunLemmas
pub mod MaximalLemmas
