-- The definitions: candidates as numbers, and which one is the greatest.
pub mod Numbers
pub mod Greatest
