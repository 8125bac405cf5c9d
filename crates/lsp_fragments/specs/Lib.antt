-- The definitions: what a content says as entries, how many of them 256 fragments hold, what
-- becomes of a wanted fragment, and what is kept of own LSPs that are issued.
pub mod Entries
pub mod Fits
pub mod GoodSplits
pub mod Issues
pub mod Kept
