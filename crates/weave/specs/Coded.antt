-- Journals as tracks of letters: what is needed of their entries, and the tracks (own).
use Rattle.std.specs.Prelude.{◌≡◌, ℕ, ◌-◌, ◌≤◌, List, [], ◌∷◌, ◌++◌, length, is_some, Bool, true, false, Some, IfSome}
use Rattle.std.specs.List.{AllByRecursion}
use Rattle.model_router.specs.Places.{nth}
use Rattle.model_network.specs.declared.end.End.{End}
use Rattle.model_network.specs.Networks.{place_in}
use Rattle.weave_core.specs.declared.moves.Move.{Move as CoreMove}
use Rattle.weave_core.specs.Codes.{wire_place, code_of}
use Rattle.weave_model.specs.Entries.{Deed, Second, Take, Pull, Metric, Overload, Prefix, Entry}
use Rattle.weave_model.specs.Weavings.{Move, entries_before, track_of}
use Rattle.weave_model.specs.Coding.{AreCodes}
use Rattle.weave_replay.specs.declared.journal.WovenJournal.{WovenJournal}
use Rattle.weave_replay.specs.Entries.{entries_of}
use Rattle.weave_replay.specs.Replays.{journals_of}

-- these are the links of a router's circuits, in order
abbrev pub ArePorts : List (List End) → ℕ → List ℕ → Type 0
ArePorts links router ports =
    (place link : ℕ) → nth ports place ≡ Some link → place_in (nth links link) router ≡ Some place

-- ---- circuits

-- the circuit of a number has a link
abbrev pub IsThere : List ℕ → ℕ → Type 0
IsThere ports circuit = (1 ≤ circuit) × (circuit ≤ length ports)

-- a deed's circuit has a link
abbrev pub HasPort : List ℕ → Deed → Type 0
HasPort ports Second = Unit {0}
HasPort ports (Take circuit octets) = IsThere ports circuit
HasPort ports (Pull circuit) = IsThere ports circuit
HasPort ports (Metric circuit metric) = Unit {0}
HasPort ports (Overload on) = Unit {0}
HasPort ports (Prefix prefix metric) = Unit {0}

-- those of all entries have
abbrev pub HavePorts : List ℕ → List Entry → Type 0
HavePorts ports es = AllByRecursion (λ (e : Entry). HasPort ports e.deed) es

-- of each journal, by its router's
abbrev pub HavePortsAll : List (List ℕ) → List WovenJournal → Type 0
HavePortsAll rows journals = AllByRecursion (λ (j : WovenJournal). IfSome (nth rows j.router)
    (λ ports. HavePorts ports (entries_of j))) journals

-- of each journal of one router
abbrev pub HavePortsOf : List ℕ → ℕ → List WovenJournal → Type 0
HavePortsOf ports router journals = AllByRecursion
    (λ (j : WovenJournal). j.router ≡ router → HavePorts ports (entries_of j)) journals

-- ---- letters

-- octets on a link have a letter
abbrev pub HasLetter : List (ℕ × List ℕ) → ℕ → List ℕ → Type 0
HasLetter wires link octets = is_some (wire_place wires link octets) ≡ true

-- what a deed takes has a letter
abbrev pub IsLettered : List (ℕ × List ℕ) → List ℕ → Deed → Type 0
IsLettered wires ports Second = Unit {0}
IsLettered wires ports (Take circuit octets) =
    IfSome (nth ports (circuit - 1)) (λ link. HasLetter wires link octets)
IsLettered wires ports (Pull circuit) = Unit {0}
IsLettered wires ports (Metric circuit metric) = Unit {0}
IsLettered wires ports (Overload on) = Unit {0}
IsLettered wires ports (Prefix prefix metric) = Unit {0}

abbrev pub AreLettered : List (ℕ × List ℕ) → List ℕ → List Entry → Type 0
AreLettered wires ports es = AllByRecursion (λ (e : Entry). IsLettered wires ports e.deed) es

abbrev pub AreLetteredAll : List (ℕ × List ℕ) → List (List ℕ) → List WovenJournal → Type 0
AreLetteredAll wires rows journals = AllByRecursion (λ (j : WovenJournal).
    IfSome (nth rows j.router) (λ ports. AreLettered wires ports (entries_of j))) journals

abbrev pub AreLetteredOf : List (ℕ × List ℕ) → List ℕ → ℕ → List WovenJournal → Type 0
AreLetteredOf wires ports router journals = AllByRecursion
    (λ (j : WovenJournal). j.router ≡ router → AreLettered wires ports (entries_of j)) journals

-- each letter is kept
abbrev pub AreKept : List (ℕ × List ℕ) → List (ℕ × List ℕ) → Type 0
AreKept old new =
    (link : ℕ) (octets : List ℕ) → HasLetter old link octets → HasLetter new link octets

-- ---- tracks

-- moves by letters are the track of journals of a router, whose circuits' links these are
abbrev pub AreCoded : List (ℕ × List ℕ) → List ℕ → ℕ → List (List Entry) → List CoreMove → Type 0
AreCoded wires ports router js moves =
    (links : List (List End)) → ArePorts links router ports
    → AreCodes (code_of wires) (length wires) links router (track_of js) moves

-- there is one of each router, of its journals
pub record AreAllCoded (wires : List (ℕ × List ℕ)) (rows : List (List ℕ))
    (journals : List WovenJournal) (tracks : List (List CoreMove)) : Type 0 where
  pub size : length tracks ≡ length rows
  pub coded : (router : ℕ) (ports : List ℕ) (moves : List CoreMove)
      → nth rows router ≡ Some ports → nth tracks router ≡ Some moves
      → AreCoded wires ports router (journals_of router journals) moves

-- ---- parts of tracks

-- whether there is a journal
abbrev pub has_some : List (List Entry) → Bool
has_some [] = false
has_some (j ∷ js) = true

-- moves by letters with those of these entries behind them
abbrev pub AreAdded : List (ℕ × List ℕ) → List ℕ → List Entry → List CoreMove → List CoreMove
    → Type 0
AreAdded wires ports es old new =
    (links : List (List End)) (router : ℕ) (before : List Move) → ArePorts links router ports
    → AreCodes (code_of wires) (length wires) links router before old
    → AreCodes (code_of wires) (length wires) links router (before ++ entries_before es []) new
