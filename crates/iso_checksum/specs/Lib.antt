-- The definitions: checksum.
pub mod Checksum
