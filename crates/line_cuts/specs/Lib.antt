-- The definitions: cuts, fields, forms, hex texts, numerals, words.
pub mod Cuts
pub mod Fields
pub mod Forms
pub mod HexTexts
pub mod Numerals
pub mod Words
