-- The lemmas, a module for each topic.
pub mod ToldLemmas
