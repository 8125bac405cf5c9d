-- The definitions: addresses, closings, kept, memory ports, hellos of other boots, pacing, ports, workers.
pub mod Addresses
pub mod Closings
pub mod Kept
pub mod MemoryPorts
pub mod OtherBoots
pub mod Pacing
pub mod Ports
pub mod Workers
