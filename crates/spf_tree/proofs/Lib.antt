-- The lemmas, a module for each topic.
pub mod NodeLemmas
pub mod WalkLemmas
pub mod QueueLemmas
pub mod LabelLemmas
pub mod SearchLemmas
pub mod PlaceLemmas
pub mod UsableLemmas
pub mod ExploreLemmas
pub mod ReachLemmas
pub mod HopLemmas
pub mod TableLemmas
pub mod DistanceLemmas
pub mod ApartLemmas
