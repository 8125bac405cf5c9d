-- The definitions: entries, fault texts, fields, hex words, journals, lent, written.
pub mod Entries
pub mod FaultTexts
pub mod Fields
pub mod HexWords
pub mod Journals
pub mod Lent
pub mod Written
