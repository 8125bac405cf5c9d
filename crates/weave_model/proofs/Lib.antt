-- The lemmas, a module for each topic.
pub mod PlaceLemmas
pub mod FaultLemmas
pub mod BeginLemmas
pub mod ApplyLemmas
pub mod MatchLemmas
pub mod EndLemmas
