-- The definitions: attachment, leaks.
pub mod Attachment
pub mod Leaks
