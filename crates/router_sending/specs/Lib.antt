-- The definitions: own LSPs before they have a number, what is issued, and what may be sent; what a sender is, and a
-- datagram while it is written.
pub mod Drafts
pub mod Held
pub mod Sends
pub mod Writing
