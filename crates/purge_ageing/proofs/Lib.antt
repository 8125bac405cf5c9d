-- The lemmas, a module for each topic.
pub mod IdLemmas
pub mod EndLemmas
pub mod LoopLemmas
