-- All that is counted at a moment. All of it own.
use Rattle.std.specs.Prelude.{◌≡◌, ℕ, List, Option}
use Rattle.isis_base.specs.declared.level.Level.TheVariants as level
use Rattle.network_lab.specs.LabNets.{Seen, seen_of}
use Rattle.packet_trace.specs.declared.forwarder.Forwarder.{Forwarder}
use Rattle.trace_text.specs.Forwarders.{AreForwarders}
use Rattle.timeline_text.specs.declared.tally.Tally.{Tally}
use Rattle.timeline_text.specs.Moments.{Moment}
use Rattle.timeline_text.specs.Agreements.{agreement_at}
use Rattle.timeline_text.specs.Fates.{AreCounted}

-- what is counted of a network, where a router is excepted: who agrees at each level, and what becomes
-- of packets by each router's own routes
pub record IsTallyOf (s : Seen) (address : ℕ) (except : Option ℕ) (tally : Tally) : Type 0 where
  pub forwarders : List Forwarder
  pub forwarders_are : AreForwarders s.routers forwarders
  pub counted : AreCounted forwarders address except tally.counts
  pub one : tally.one ≡ agreement_at s level.One
  pub two : tally.two ≡ agreement_at s level.Two

abbrev pub IsTally : ℕ → Moment → Tally → Type 0
IsTally address moment tally = IsTallyOf (seen_of moment.net) address moment.except tally
