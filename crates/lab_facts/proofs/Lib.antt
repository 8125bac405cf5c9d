-- The lemmas, a module for each topic.
pub mod ParentLemmas
pub mod LabelLemmas
pub mod TagLemmas
pub mod GroupLemmas
pub mod CellLemmas
pub mod StateLemmas
pub mod GroupedLemmas
pub mod SweepLemmas
pub mod SightingLemmas
pub mod SeenLemmas
pub mod OnceLemmas
