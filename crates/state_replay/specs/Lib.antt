-- The definitions: faults, what an input has, the replay of its entries, how the writing of a state ends, and what is kept while
-- the configuration is read.
pub mod Faults
pub mod Inputs
pub mod Replays
pub mod Ends
pub mod Fronts
