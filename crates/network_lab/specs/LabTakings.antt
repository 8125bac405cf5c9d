-- Which ranges of CSNPs a router takes cleanly on a LAN, as they are kept (ISO 10589 7.3.15.2; the
-- words: own).
use Rattle.std.specs.Prelude.{◌≡◌, ℕ, ◌==◌, Bool, true, false, ◌&&◌, List, [], ◌∷◌, ◌++◌, Option, Some, None, if◌then◌else◌}
use Rattle.isis_base.specs.Identifiers.{lsp_number}
use Rattle.model_router.specs.Routers.{Router, book_of}
use Rattle.model_router.specs.Events.{Reply, Done, Dropped, Send, Outcome}
use Rattle.model_router.specs.Steps.{step}
use Rattle.router_core.specs.Givens.{given}
use Rattle.model_network.specs.Networks.{Datagram, Taking}
use Rattle.model_network.specs.Runs.{changes_of, taking, ranges_in}
use Rattle.lab_facts.specs.Sweeps.{taking_at}
use Rattle.network_lab.specs.declared.notes.Notes.{Notes}
use Rattle.network_lab.specs.declared.sent.Changes.{Changes}
use Rattle.network_lab.specs.declared.sent.SentDatagram.{SentDatagram}
use Rattle.network_lab.specs.declared.heard_range.HeardRange.{HeardRange}
use Rattle.network_lab.specs.LabNets.{counts_in, sent_of}

-- the counts of changed keys of a router, 0 where it isn't there
abbrev pub counts_at : Option Router → Changes
counts_at None = record { one = 0; two = 0 }
counts_at (Some r) = counts_in (changes_of r)

-- whether a datagram that was taken wasn't dropped
abbrev pub is_taken : Reply → Bool
is_taken Done = true
is_taken (Dropped cause) = false
is_taken (Send out) = true

-- the range that a router heard is taken, where the datagram isn't dropped and no key changes
abbrev pub kept_ranges : Option HeardRange → Outcome → List Taking
kept_ranges None o = []
kept_ranges (Some h) o =
    if is_taken o.reply && (book_of o.router h.key.level).changes == h.key.changes
    then taking_at h.key (lsp_number h.first) (lsp_number h.last) ∷ [] else []

-- what is noted then: the router's state, and the range that it heard, where it takes that
abbrev pub noted_in : Option HeardRange → Outcome → Notes → Notes
noted_in heard o noted = record {
  past = o.router ∷ noted.past;
  takings = kept_ranges heard o ++ noted.takings;
}

-- what a router heard in a datagram, on its circuit at a place, are the ranges that it takes of it
pub record IsHeard (i place : ℕ) (r : Router) (d : SentDatagram) (heard : Option HeardRange) : Type 0 where
  pub each : (x : Datagram) → sent_of x ≡ d
      → ranges_in given i r place x ≡ kept_ranges heard (step given r (taking r place d.octets))
