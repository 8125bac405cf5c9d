-- The definitions: causes of a drop, what a desk is, the tests that need no state, and what is found by them; what is
-- heard as the model's message, and the items of TLVs that are left.
pub mod Causes
pub mod Desks
pub mod Configs
pub mod Limits
pub mod Headers
pub mod Values
pub mod Table
pub mod Opening
pub mod Heard
pub mod Left
