-- The lemmas, a module for each topic.
pub mod FlagLemmas
mod CountLemmas
pub mod NodeLemmas
mod LspsLemmas
