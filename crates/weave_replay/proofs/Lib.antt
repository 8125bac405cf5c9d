-- The lemmas, a module for each topic.
pub mod PlaceLemmas
pub mod JournalLemmas
mod BehindLemmas
mod TellLemmas
mod EntryLemmas
mod LimitLemmas
mod HistoryLemmas
