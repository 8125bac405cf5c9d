-- The definitions: what becomes of a packet at a router.
pub mod Steps
