-- The lemmas, a module for each topic.
pub mod LineLemmas
pub mod FrontLemmas
pub mod ReplayLemmas
pub mod LawLemmas
pub mod EndLemmas
