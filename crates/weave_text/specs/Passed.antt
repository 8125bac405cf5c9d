-- Definitions of crates below that crates above name too, so that these needn't name those crates.
pub use Rattle.weave.specs.declared.fault.WeaveFault
pub use Rattle.weave.specs.Faults.{no_memory}
