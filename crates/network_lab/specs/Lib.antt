-- The definitions: lab nets, lab causes, lab configs, lab events, lab takings, noting, hearing, agreements,
-- claims, LAN states, link states, reached, acknowledged, lab inside, joining, lab steps, lab runs;
-- and what is passed on.
pub mod LabNets
pub mod LabCauses
pub mod LabConfigs
pub mod LabEvents
pub mod LabTakings
pub mod Noting
pub mod Hearing
pub mod Agreements
pub mod Claims
pub mod LanStates
pub mod LinkStates
pub mod Reached
pub mod Acknowledged
pub mod LabInside
pub mod Joining
pub mod LabSteps
pub mod LabRuns
pub mod Passed
