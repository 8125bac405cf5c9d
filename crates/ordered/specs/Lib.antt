-- The definitions: lists by a key of their items.
pub mod Keyed
