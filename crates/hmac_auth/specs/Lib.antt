-- The definitions: HMAC, PDUs, auth, faults.
pub mod Hmac
pub mod Pdus
pub mod Auth
pub mod Faults
