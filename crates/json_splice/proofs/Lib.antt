pub mod HeldLemmas
pub mod WordLemmas
pub mod ScalarLemmas
pub mod EntryLemmas
pub mod ValuesLemmas
pub mod KeysLemmas
pub mod ContainerLemmas
pub mod PartsLemmas
