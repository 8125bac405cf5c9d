-- What the check doesn't find alone: neighbours in order, prefixes, fragments and their numbers, and
-- what a router's LSPs look at.
pub mod NodeLemmas
pub mod ReachLemmas
pub mod PartLemmas
pub mod WantedLemmas
