-- Definitions of crates below that crates above name too, so that these needn't name those crates.
unfoldable pub use Rattle.lab_report.specs.Names.{name_at}
pub use Rattle.lab_report.specs.RouteLines.{prefix_words, told_cost}
pub use Rattle.lab_text.specs.LabRuns.{end_of}
pub use Rattle.network_lab.specs.LabNets.{LabNet, Seen, StandsFor, seen_of}
pub use Rattle.network_lab.specs.LinkStates.{groups_at}
