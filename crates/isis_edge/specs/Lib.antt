-- The definitions: faults, memory, sinks, sources, told, texts.
pub mod Faults
pub mod Memory
pub mod Sinks
pub mod Sources
pub mod Told
pub mod Texts
