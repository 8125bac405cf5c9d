-- The lemmas, a module for each topic.
pub mod ValueLemmas
pub mod OpenLemmas
pub mod ReadingLemmas
pub mod DistinctLemmas
pub mod PassedLemmas
pub mod ValidLemmas
pub mod TwinLemmas
pub mod LeftLemmas
