pub mod Replays
pub mod Alike
pub mod Finds
pub mod ScriptLosses
