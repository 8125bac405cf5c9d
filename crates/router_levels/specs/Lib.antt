-- The definitions: a level's parts as contracts and as the router's model see them, and what own
-- LSPs' drafts are for.
pub mod Views
pub mod Drafts
