-- The lemmas, a module for each topic.
pub mod WalkLemmas
pub mod SizeLemmas
pub mod BitLemmas
pub mod RoundLemmas
pub mod PrefixLemmas
pub mod ThreeWayLemmas
pub mod TlvLemmas
pub mod LengthLemmas
mod StepLemmas
