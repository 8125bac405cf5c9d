-- The definitions: areas, area texts, fields, identifiers, keys, lending, levels, octets, texts,
-- misfit, prefixes, prefix fronts, prefix texts, PDU kinds.
pub mod Areas
pub mod AreaTexts
pub mod Fields
pub mod Identifiers
pub mod Keys
pub mod Lending
pub mod Levels
pub mod Octets
pub mod Texts
pub mod Misfit
pub mod Prefixes
pub mod PrefixFronts
pub mod PrefixTexts
pub mod PduKinds
