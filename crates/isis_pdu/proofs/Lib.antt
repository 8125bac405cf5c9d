-- The lemmas, a module for each topic.
pub mod ReadLemmas
pub mod RoundLemmas
pub mod FrameLemmas
mod DatagramLemmas
