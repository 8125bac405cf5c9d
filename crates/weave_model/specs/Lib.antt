-- The definitions: entries and their replay, faults, where replay begins, weavings, and what is
-- woven of them by letters.
pub mod Entries
pub mod Faults
pub mod Begins
pub mod Weavings
pub mod Coding
