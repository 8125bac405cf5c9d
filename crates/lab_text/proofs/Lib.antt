-- The lemmas, a module for each topic.
pub mod LineLemmas
pub mod EndLemmas
pub mod SetupLemmas
pub mod TurnLemmas
pub mod ClaimLemmas
pub mod PlayLemmas
pub mod SoundLemmas
pub mod LayLemmas
pub mod LabLemmas
