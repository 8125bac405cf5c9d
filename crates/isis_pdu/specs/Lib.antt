-- The definitions: views, layout, table, reading, decoded, spelling, faults, frames.
pub mod Views
pub mod Layout
pub mod Table
pub mod Reading
pub mod Decoded
pub mod Spelling
pub mod Faults
pub mod Frames
