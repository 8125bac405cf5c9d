-- The definitions: what a run may come to, its schedules, what is known of them all, and their parts.
pub mod Trees
pub mod Schedules
pub mod Counts
pub mod Claims
pub mod Parts
pub mod PartsLeft
pub mod Causes
