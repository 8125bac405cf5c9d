-- The lemmas, a module for each topic.
pub mod InLemmas
mod PortLemmas
mod ReadLemmas
pub mod LegibleLemmas
mod PointReplies
pub mod ChangeLemmas
mod LinkLemmas
pub mod RestartLemmas
pub mod NetLemmas
mod ClaimLemmas
mod CountLemmas
pub mod KeptLemmas
pub mod LineLemmas
pub mod ChainLemmas
mod SilentLemmas
pub mod OriginLemmas
pub mod SweepLemmas
