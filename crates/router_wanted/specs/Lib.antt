-- The definitions: what is lent of a router, its LSPs as the model has them, and their parts.
pub mod Views
pub mod Lent
pub mod Parts
