-- The definitions: entries, replays of journals with their faults and limits, and what becomes of
-- what is replayed.
pub mod Entries
pub mod Outcomes
pub mod Replays
pub mod Passed
