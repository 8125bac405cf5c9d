-- The lemmas, a module for each topic.
mod Picks
mod ByLabels
pub mod Told
pub mod Running
mod Joins
mod Jobs
mod Stops
pub mod Gathered
mod Afterwards
pub mod Places
mod Histories
mod Opened
mod Served
mod Written
mod DaemonLemmas
