-- The lemmas, a module for each topic.
pub mod HmacLemmas
pub mod CompareLemmas
pub mod MessageLemmas
pub mod PduLemmas
pub mod PlaceLemmas
pub mod CauseLemmas
pub mod SignLemmas
pub mod SignedLemmas
