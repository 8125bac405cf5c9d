-- The definitions: prefixes, items of TLVs and how they are spelled, captures, what prefixes may be reached by, and routes.
pub mod Prefixes6
pub mod Texts6
pub mod Items6
pub mod Takes6
pub mod Spelling6
pub mod Captured
pub mod Taken
pub mod Reach6
pub mod Routes6
pub mod Numbered
