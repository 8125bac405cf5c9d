-- The lemmas, a module for each topic.
pub mod DraftLemmas
pub mod SumLemmas
pub mod HeldLemmas
pub mod IssueLemmas
pub mod PieceLemmas
pub mod EndLemmas
pub mod SendLemmas
