-- The definitions: IDs, ends.
pub mod Ids
pub mod Ends
