-- The replay of journals of several routers, each by its router; the first fault, and the limits
-- (own).
use Rattle.std.specs.Prelude.{◌≡◌, ℕ, ◌+◌, ◌==◌, ◌<◌, ◌≤◌, List, [], ◌∷◌, length, take, Some, if◌then◌else◌}
use Rattle.model_router.specs.Places.{nth}
use Rattle.model_router.specs.Routers.{Router}
use Rattle.model_router.specs.Starts.{start}
use Rattle.router_core.specs.Givens.{given}
use Rattle.lab_keys.specs.declared.faults.LimitName.{LimitName}
use Rattle.lab_keys.specs.declared.faults.LimitName.TheVariants as limit
use Rattle.weave_model.specs.Entries.{Entry}
use Rattle.weave_model.specs.Faults.{AreGood, Fault, OfEvent, OfReply, IsFirstFault, opening}
use Rattle.weave_model.specs.Coding.{sends_of}
use Rattle.weave_replay.specs.declared.journal.WovenJournal.{WovenJournal}
use Rattle.weave_replay.specs.declared.fault.ReplayFault.{ReplayFault}
use Rattle.weave_replay.specs.declared.fault.ReplayFault.TheVariants.{Event, Reply, Limit, OutOfMemory}
use Rattle.weave_replay.specs.Entries.{entries_of}

-- the journals of a router among these, in order
abbrev pub journals_of : ℕ → List WovenJournal → List (List Entry)
journals_of router [] = []
journals_of router (j ∷ js) =
    if j.router == router then entries_of j ∷ journals_of router js else journals_of router js

-- a router's opening state in its first boot
abbrev pub in_first_boot : Router → Router
in_first_boot r = start r.config 1 r.circuits

-- Where the replay of a journal that stands behind these others begins: its router's opening state,
-- the n-th journal's with boot n, with the configuration as changed so far. There are 16,777,215
-- boots, and a journal behind the last isn't replayed.
pub record Opens (routers : List Router) (before : List WovenJournal) (j : WovenJournal)
    (r : Router) : Type 0 where
  pub first : Router
  pub of : nth routers j.router ≡ Some first
  pub state : r ≡ opening given (in_first_boot first) (journals_of j.router before)
  pub boot : length (journals_of j.router before) < 16777215

-- ---- faults

-- the first entry of a journal that has a fault, counted from 1
pub record IsFaultAt (r : Router) (es : List Entry) (entry : ℕ) (fault : Fault) : Type 0 where
  pub before : ℕ
  pub counted : entry ≡ before + 1
  pub first : IsFirstFault given r es before fault

-- a journal behind these others has no entry with a fault
abbrev pub IsFaultless : List Router → List WovenJournal → WovenJournal → Type 0
IsFaultless routers before j =
    (r : Router) → Opens routers before j r → AreGood given r (entries_of j)

-- it has one, the first at this entry
pub record HasFault (routers : List Router) (before : List WovenJournal) (j : WovenJournal)
    (entry : ℕ) (fault : Fault) : Type 0 where
  pub r : Router
  pub opens : Opens routers before j r
  pub faulty : IsFaultAt r (entries_of j) entry fault

-- none of these journals has an entry with a fault
abbrev pub AreFaultless : List Router → List WovenJournal → Type 0
AreFaultless routers journals =
    (place : ℕ) (j : WovenJournal) → nth journals place ≡ Some j
    → IsFaultless routers (take place journals) j

-- the first entry that has a fault, by journal and entry, counted from 1
pub record IsFirstOfAll (routers : List Router) (journals : List WovenJournal)
    (journal entry : ℕ) (fault : Fault) : Type 0 where
  pub place : ℕ
  pub counted : journal ≡ place + 1
  pub j : WovenJournal
  pub at : nth journals place ≡ Some j
  pub earlier : AreFaultless routers (take place journals)
  pub faulty : HasFault routers (take place journals) j entry fault

-- ---- limits

-- a router has more journals than there are boots
pub record AreManyBoots (journals : List WovenJournal) : Type 0 where
  pub router : ℕ
  pub many : 16777215 < length (journals_of router journals)

-- no router has
abbrev pub AreFewBoots : List WovenJournal → Type 0
AreFewBoots journals = (router : ℕ) → length (journals_of router journals) ≤ 16777215

-- the number of datagrams that the replies of a journal send
abbrev pub sent_by : List Entry → ℕ
sent_by [] = 0
sent_by (e ∷ es) = length (sends_of e.answer) + sent_by es

-- those that the replies of all journals send
abbrev pub sent_in : List WovenJournal → ℕ
sent_in [] = 0
sent_in (j ∷ js) = sent_by (entries_of j) + sent_in js

-- ---- what is told

abbrev pub no_memory : ReplayFault
no_memory = OutOfMemory

-- a limit is passed, and none before it
abbrev pub IsPassed : List WovenJournal → LimitName → Type 0
IsPassed journals limit.Boots = AreManyBoots journals
IsPassed journals limit.Datagrams = AreFewBoots journals × (262144 < sent_in journals)
IsPassed journals limit.Routers = ⊥
IsPassed journals limit.Links = ⊥
IsPassed journals limit.Circuits = ⊥
IsPassed journals limit.Prefixes = ⊥

-- the first that applies; of want of memory nothing is said
abbrev pub IsTold : List Router → List WovenJournal → ReplayFault → Type 0
IsTold routers journals (Event journal entry) = IsFirstOfAll routers journals journal entry OfEvent
IsTold routers journals (Reply journal entry) = IsFirstOfAll routers journals journal entry OfReply
IsTold routers journals (Limit name) = AreFaultless routers journals × IsPassed journals name
IsTold routers journals OutOfMemory = Unit {0}

-- nothing applies
pub record AreReplayed (routers : List Router) (journals : List WovenJournal) : Type 0 where
  pub faultless : AreFaultless routers journals
  pub boots : AreFewBoots journals
  pub datagrams : sent_in journals ≤ 262144
