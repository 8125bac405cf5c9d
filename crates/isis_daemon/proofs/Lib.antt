-- The lemmas, a module for each topic.
mod DaemonLemmas
mod GridLemmas
pub mod HeadlineLemmas
pub mod ShowLemmas
mod InputLemmas
mod LossesLemmas
mod StateLemmas
mod MergeLemmas
mod TakenLemmas
mod TextLemmas
mod OptionLemmas
mod TraceLemmas
mod WalkLemmas
mod WeaveLemmas
