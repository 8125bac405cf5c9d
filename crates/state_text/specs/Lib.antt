-- The definitions: the lines of a router's state, and its text.
pub mod StateLines
pub mod States
