-- The lemmas: why the cost falls along a move, why routes fall along it, and why walks end; lists, node IDs as
-- numbers, databases that say the same, candidates, and the laws.
pub mod MoveLemmas
pub mod RouteLemmas
pub mod WalkedLemmas
pub mod ListLemmas
pub mod NodeLemmas
pub mod SaidLemmas
pub mod LookLemmas
pub mod TellLemmas
pub mod AgreeLemmas
pub mod ReachedLemmas
