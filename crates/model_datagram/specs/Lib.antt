-- The definitions: what is read, what is written, and what laws say.
pub mod Frames
pub mod Values
pub mod Tests
pub mod Reading
pub mod Signing
pub mod CheckOctets
pub mod Lsps
pub mod Tlvs
pub mod Datagrams
pub mod Said
pub mod Senders
pub mod LspLaws
pub mod Speakers
pub mod Rows
