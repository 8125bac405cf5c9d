-- The definitions: where a rank falls, where a new live LSP comes from, where flags stand, what the CSNPs of a reply list,
-- and what it is to take a CSNP without a flag.
pub mod Falls
pub mod Origins
pub mod Flags
pub mod Listings
pub mod Readings
