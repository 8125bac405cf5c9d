-- The lemmas, a module for each topic.
pub mod CutLemmas
pub mod AheadLemmas
pub mod BlockLemmas
pub mod FreshLemmas
pub mod ChangeLemmas
pub mod LineLemmas
pub mod WovenLemmas
pub mod WeavableLemmas
pub mod ReadBackLemmas
pub mod AlikeLemmas
pub mod WovenReadLemmas
pub mod NamingLemmas
