-- The lemmas, a module for each topic.
pub mod PlaceLemmas
mod PostLemmas
mod RoundLemmas
pub mod FrontLemmas
mod LetterLemmas
