-- The definitions: the crate's values as the model of the router has them, what comes of a hello,
-- and how LAN neighbours lie in lists.
pub mod Views
pub mod Changes
pub mod Lans
pub mod Inside
pub mod Remembered
