-- The definitions: joined, parents, tags, excepted, tallies, link states, grouped; which ranges were taken at one
-- moment, and whether they cover all LSP IDs; sightings, seen, entries.
pub mod Joined
pub mod Parents
pub mod Tags
pub mod Excepted
pub mod Tallies
pub mod LinkStates
pub mod Grouped
pub mod Sweeps
pub mod Keeping
pub mod Sightings
pub mod Seen
pub mod Entries
