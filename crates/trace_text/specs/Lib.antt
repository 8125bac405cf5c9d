-- The definitions: routers as packets meet them, and that a packet arrived; the trace after a script, and its text; a trace where there is a walk.
pub mod TraceText
pub mod AsWalked
pub mod Traces
pub mod Forwarders
pub mod Arrivals
