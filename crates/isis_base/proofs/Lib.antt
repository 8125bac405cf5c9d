-- The lemmas, a module for each topic.
pub mod AreaLemmas
pub mod ArrayLemmas
pub mod KeyLemmas
pub mod LevelLemmas
pub mod MisfitLemmas
pub mod OrderLemmas
pub mod SpellingLemmas
pub mod PrefixLemmas
pub mod PrefixValues
