-- The definitions: the moments of a script, what is counted at each, and the text.
pub mod Moments
pub mod Agreements
pub mod Fates
pub mod Tallies
pub mod TimelineText
pub mod Pages
pub mod Playing
pub mod Timelines
