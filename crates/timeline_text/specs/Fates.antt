-- What becomes of packets to an address at a moment, from each router (RFC 1195 3.10; the form: own).
use Rattle.std.specs.Prelude.{◌≡◌, ℕ, ◌+◌, Bool, ◌&&◌, not, List, [], ◌∷◌, length, Option, Some, if◌then◌else◌}
use Rattle.model_router.specs.Places.{nth}
use Rattle.model_network.specs.RunLines.{is_excepted}
use Rattle.trace_core.specs.declared.outcomes.Outcomes.{Outcomes}
use Rattle.trace_core.specs.declared.step.Step.{Step}
use Rattle.trace_core.specs.declared.step.Step.TheVariants.{Lost}
use Rattle.trace_core.specs.Whichever.{AreOutcomes}
use Rattle.packet_trace.specs.declared.forwarder.Forwarder.{Forwarder}
use Rattle.packet_trace.specs.Steps.{steps_at}
use Rattle.timeline_text.specs.declared.fates.Counts.{Counts}

-- a router that a line `run` excepts hands nothing on, so what is handed to it is lost
abbrev pub steps_where : Option ℕ → (ℕ → List Step) → ℕ → List Step
steps_where except steps place = if is_excepted except place then Lost ∷ [] else steps place

-- what may become of a packet from each router, whichever next hops of equal cost it takes
pub record AreAllOutcomes (forwarders : List Forwarder) (address : ℕ) (except : Option ℕ)
    (outcomes : List Outcomes) : Type 0 where
  pub each_one : length outcomes ≡ length forwarders
  pub are : (place : ℕ) (o : Outcomes) → nth outcomes place ≡ Some o
      → AreOutcomes (steps_where except (steps_at forwarders address)) place o

-- it arrives, whichever next hops it takes
abbrev pub only_arrives : Outcomes → Bool
only_arrives o = o.arrives && (not o.loops && not o.lost)

abbrev pub may_loop : Outcomes → Bool
may_loop o = o.loops

abbrev pub may_be_lost : Outcomes → Bool
may_be_lost o = o.lost

-- 1 for a router of which it is so, unless that is excepted
abbrev pub one_of : Bool → Bool → ℕ
one_of is excepted = if is && not excepted then 1 else 0

-- of how many routers that aren't excepted it is so, from a place on
abbrev pub count_from : (Outcomes → Bool) → Option ℕ → ℕ → List Outcomes → ℕ
count_from is except place [] = 0
count_from is except place (o ∷ outcomes) =
    one_of (is o) (is_excepted except place) + count_from is except (place + 1) outcomes

-- the counts with one router more, unless it is excepted
abbrev pub with_fate : Counts → Bool → Outcomes → Counts
with_fate counts excepted o = record {
  arrive = counts.arrive + one_of (only_arrives o) excepted;
  loops = counts.loops + one_of (may_loop o) excepted;
  lost = counts.lost + one_of (may_be_lost o) excepted;
}

-- from how many routers packets arrive, may loop, and may be lost
pub record AreCounted (forwarders : List Forwarder) (address : ℕ) (except : Option ℕ) (counts : Counts)
    : Type 0 where
  pub outcomes : List Outcomes
  pub outcomes_are : AreAllOutcomes forwarders address except outcomes
  pub arrive : counts.arrive ≡ count_from only_arrives except 0 outcomes
  pub loops : counts.loops ≡ count_from may_loop except 0 outcomes
  pub lost : counts.lost ≡ count_from may_be_lost except 0 outcomes
