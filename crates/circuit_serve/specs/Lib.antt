-- The definitions: labels, walks, jobs, joined passes, ends, served; daemons, their ends, histories, openings.
pub mod Labels
pub mod Walks
pub mod Jobs
pub mod Joined
pub mod Ends
pub mod Served
pub mod Daemons
pub mod DaemonEnds
pub mod Histories
pub mod Openings
