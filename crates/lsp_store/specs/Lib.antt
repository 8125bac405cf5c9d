-- The definitions: maps, places, page facts, page maps, inside, databases, rooms.
pub mod Maps
pub mod Places
pub mod PageFacts
pub mod PageMaps
pub mod Inside
pub mod Databases
pub mod Rooms
