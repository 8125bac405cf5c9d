-- Lemmas, by topic.
pub mod ListLemmas
pub mod LookLemmas
pub mod LevelLemmas
pub mod AlikeLemmas
pub mod ForeignLemmas
pub mod OwnerLemmas
pub mod ZeroLemmas
pub mod SettledLemmas
pub mod StrangerLemmas
pub mod TestLemmas
pub mod WayLemmas
