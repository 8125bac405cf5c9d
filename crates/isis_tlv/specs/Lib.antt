-- The definitions: walks, TLVs, TLV views, items, takes, spelling, fits, framed, faults.
pub mod Walks
pub mod Tlvs
pub mod TlvViews
pub mod Items
pub mod Takes
pub mod Spelling
pub mod Fits
pub mod Framed
pub mod Faults
