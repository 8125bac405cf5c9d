-- The definitions: flag rows, heard, known, entries, book states, deeds, circuits, walks, marks,
-- ages, said, among.
pub mod FlagRows
pub mod Heard
pub mod Known
pub mod Entries
pub mod BookStates
pub mod Deeds
pub mod Circuits
pub mod Walks
pub mod Marks
pub mod Ages
pub mod Said
pub mod Among
