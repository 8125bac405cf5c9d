-- The lemmas, a module for each topic.
pub mod PieceLemmas
pub mod SweepLemmas
pub mod WalkLemmas
