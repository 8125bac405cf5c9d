-- The lemmas, a module for each topic.
pub mod RepairLemmas
pub mod EraseLemmas
pub mod FeedLemmas
pub mod ReplaceLemmas
pub mod ChangeLemmas
