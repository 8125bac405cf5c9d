-- The definitions: what fits, rounds, fronts, what is kept of sendings, and the numbers of letters.
pub mod Fits
pub mod Scenes
pub mod Fronts
pub mod Posts
pub mod Codes
pub mod Index
