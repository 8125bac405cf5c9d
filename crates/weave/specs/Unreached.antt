-- The first entry of journals that no front reaches (own).
use Rattle.std.specs.Prelude.{◌≡◌, ℕ, ◌+◌, ◌<◌, ◌≤◌, List, [], ◌∷◌, ◌++◌, length, take, Some, slice_get}
use Rattle.model_router.specs.Places.{nth}
use Rattle.router_core.specs.Givens.{given}
use Rattle.model_network.specs.Networks.{Network}
use Rattle.model_network.specs.Runs.{Happening}
use Rattle.weave_model.specs.Weavings.{Move, track_of, Scene, Front}
use Rattle.weave_replay.specs.declared.journal.WovenJournal.{WovenJournal}
use Rattle.weave_replay.specs.Entries.{entries_of}
use Rattle.weave_replay.specs.Replays.{journals_of}
use Rattle.weave.specs.Begins.{begin}

-- how many moves a router makes up to and with so many entries of a journal that stands behind these
-- others
abbrev pub moves_to : List WovenJournal → WovenJournal → ℕ → ℕ
moves_to before j entries =
    length (track_of (journals_of j.router before ++ take entries (entries_of j) ∷ []))

-- how many moves it has in all
abbrev pub moves_in : ℕ → List WovenJournal → ℕ
moves_in router journals = length (track_of (journals_of router journals))

-- a scene has those moves of the router behind it
pub record HasReached (journals before : List WovenJournal) (j : WovenJournal) (entries : ℕ)
    (s : Scene) : Type 0 where
  pub left : List Move
  pub there : slice_get s.tracks j.router ≡ Some left
  pub made : moves_to before j entries + length left ≤ moves_in j.router journals

-- a front reaches so many entries of a journal
pub record IsReached (net : Network) (journals before : List WovenJournal) (j : WovenJournal)
    (entries : ℕ) : Type 0 where
  pub hs : List Happening
  pub s : Scene
  pub front : Front given hs (begin net journals) s
  pub reached : HasReached journals before j entries s

-- each entry of a journal is reached
abbrev pub AreReached : Network → List WovenJournal → List WovenJournal → WovenJournal → Type 0
AreReached net journals before j =
    (place : ℕ) → place < length (entries_of j) → IsReached net journals before j (place + 1)

-- the first entry, by journal and entry, that no front reaches, both counted from 1
pub record IsFirstUnreached (net : Network) (journals : List WovenJournal) (journal entry : ℕ)
    : Type 0 where
  pub place : ℕ
  pub counted : journal ≡ place + 1
  pub j : WovenJournal
  pub at : nth journals place ≡ Some j
  pub of : j.router < length net.routers
  pub first : ℕ
  pub numbered : entry ≡ first + 1
  pub there : first < length (entries_of j)
  pub unreached : IsReached net journals (take place journals) j (first + 1) → ⊥
  pub earlier : (other : ℕ) → other < first
      → IsReached net journals (take place journals) j (other + 1)
  pub journals_before : (other : ℕ) (k : WovenJournal) → other < place
      → nth journals other ≡ Some k → AreReached net journals (take other journals) k
