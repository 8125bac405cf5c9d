-- Definitions of crates below that crates above name too, so that these needn't name those crates.
pub use Rattle.router_core.specs.Givens.{given}
pub use Rattle.router_core.specs.Events.{IsThere, FitsPrefix}
pub use Rattle.lab_facts.specs.Sightings.{doubled_in}
pub use Rattle.lab_facts.specs.declared.state.LinkState.{LinkState}
