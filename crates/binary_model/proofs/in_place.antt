-- A document changed in place stands for the edited tree.
pub mod AgreeLemmas
pub mod StayLemmas
pub mod AgainLemmas
pub mod RefitLemmas
pub mod KidsLemmas
pub mod ReplaceLemmas
pub mod ShrinkLemmas
pub mod RemoveLemmas
pub mod LiftLemmas
pub mod PositionLemmas
pub mod EditLemmas
pub mod ChangeLemmas
pub mod WrittenLemmas
