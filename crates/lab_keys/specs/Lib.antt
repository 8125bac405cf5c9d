-- The definitions: causes, held, inside, keys net, limits, keys held.
pub mod Causes
pub mod Held
pub mod Inside
pub mod KeysNet
pub mod Limits
pub mod KeysHeld
