-- The definitions: changes, change, repair, erase, feed, replace.
pub mod Changes
pub mod Change
pub mod Repair
pub mod Erase
pub mod Feed
pub mod Replace
