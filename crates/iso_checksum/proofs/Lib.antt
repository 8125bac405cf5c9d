-- The lemmas, a module for each topic.
pub mod FillLemmas
pub mod SumLemmas
