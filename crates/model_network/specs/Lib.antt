-- The definitions: networks and what events do to them, lines `run`, and what is claimed of links; live views of
-- databases, the routers that chains of clean links connect, and where what is held comes from.
pub mod Networks
pub mod Takings
pub mod Runs
pub mod RunLines
pub mod LineEvents
pub mod Speakers
pub mod Ports
pub mod Links
pub mod Starts
pub mod Counts
pub mod Kept
pub mod LiveViews
pub mod Chains
pub mod Origins
pub mod Sweeps
