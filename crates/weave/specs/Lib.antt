-- The definitions: journals as tracks of letters, and where weaving begins; what is woven, the first
-- entry that is never reached, and what is told; then how routers' moves are left, made and played.
pub mod Coded
pub mod Begins
pub mod Woven
pub mod Unreached
pub mod Faults
pub mod Moves
pub mod Counts
pub mod Plays
pub mod Passed
