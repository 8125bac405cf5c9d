-- The lemmas, a module for each topic.
pub mod SearchLemmas
pub mod MapLemmas
pub mod PairLemmas
