-- The definitions: lines, the part of a text ahead of its blocks, and the blocks; what a text says, what is woven of it, and how
-- that is written.
pub mod Lines
pub mod Ahead
pub mod Blocks
pub mod Weavings
pub mod Written
pub mod Named
pub mod Reasons
pub mod Faults
pub mod Weaves
pub mod Answers
pub mod Passed
pub mod ReadBack
