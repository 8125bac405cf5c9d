-- The lemmas, a module for each topic.
pub mod HeldLemmas
pub mod NetLemmas
pub mod PairLemmas
pub mod KeysLemmas
