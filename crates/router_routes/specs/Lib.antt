-- The definitions: what routes look at, least costs, candidates, what is leaked, and what follows
-- them, one node that tells other LSPs, nodes that no route reads, and what will follow.
pub mod Told
pub mod Costs
pub mod Outlooks
pub mod Candidates
pub mod Ways
pub mod Leaks
pub mod Differences
pub mod Counts
pub mod Following
pub mod Moved
pub mod Near
pub mod Kept
pub mod Coming
pub mod Touched
