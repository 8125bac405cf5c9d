-- Lemmas.
pub mod LookupLemmas
mod PlaceLemmas
