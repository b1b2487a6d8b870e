pub mod ChildLemmas
