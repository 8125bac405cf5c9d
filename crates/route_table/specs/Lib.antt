-- The definitions: ranks, routes, lookups, order, patches, and how they are put in.
pub mod Ranks
pub mod Routes
pub mod Lookups
pub mod Order
pub mod Patches
pub mod Putting
