-- The definitions: what a reader of lines has, and what is printed of its faults.
pub mod Faults
pub mod Lines
