-- Lemmas.
mod ForwarderLemmas
mod WalkLemmas
pub mod PlaceLemmas
mod ArriveLemmas
pub mod HandingLemmas
