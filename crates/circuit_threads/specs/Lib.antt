-- The definitions: history, told, answered, turns, shared, sharing, journal text, line rests.
pub mod History
pub mod Told
pub mod Answered
pub mod Turns
pub mod Shared
pub mod Sharing
pub mod JournalText
pub mod LineRests
