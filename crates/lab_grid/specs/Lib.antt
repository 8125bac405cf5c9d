-- The definitions: grid lines, grid runs, grid scripts, grid text, summary text, tallies.
pub mod GridLines
pub mod GridRuns
pub mod GridScripts
pub mod GridText
pub mod SummaryText
pub mod Tallies
