-- The definitions: bodies, views, LSPs as they are read.
pub mod Bodies
pub mod Views
pub mod Lsps
