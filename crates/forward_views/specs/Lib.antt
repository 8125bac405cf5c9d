-- The definitions: what moves cost, a prefix of one owner, walks along routes; what is looked at of routers, and
-- walks over it.
pub mod Moves
pub mod Owned
pub mod Walked
pub mod Looks
pub mod Forwarded
