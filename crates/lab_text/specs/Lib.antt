-- The definitions: what a lab script lays out, its run, and what holds while it is played; fault texts, keys in net,
-- keys report, keys runs, report left, run faults, runs, lab reports, playing, claimed; and what is passed on.
pub mod Layouts
pub mod LabRuns
pub mod Played
pub mod Setups
pub mod LabClaims
pub mod FaultTexts
pub mod KeysInNet
pub mod KeysReport
pub mod KeysRuns
pub mod ReportLeft
pub mod RunFaults
pub mod Runs
pub mod LabReports
pub mod Playing
pub mod Claimed
pub mod Passed
