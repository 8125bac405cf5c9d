-- The definitions: commands, daemon ends, grid ends, headline, options, runs, show text, shown left,
-- statuses, trace ends, walk ends.
pub mod Commands
pub mod DaemonEnds
pub mod GridEnds
pub mod Headline
pub mod Options
pub mod LossesRuns
pub mod MergeRuns
pub mod StateRuns
pub mod TimelineRuns
pub mod Runs
pub mod ShowText
pub mod ShownLeft
pub mod Statuses
pub mod TraceEnds
pub mod WalkEnds
pub mod WeaveEnds
