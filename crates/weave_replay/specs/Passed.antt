-- Definitions of crates below that crates above name too, so that these needn't name those crates.
pub use Rattle.router_core.specs.Givens.{given}
pub use Rattle.journal_text.specs.declared.entry.WovenEntry
pub use Rattle.journal_text.specs.declared.entry.WovenEvent
