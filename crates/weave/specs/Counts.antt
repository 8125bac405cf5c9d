-- Which entry is the first that isn't made, by how many moves of each router were made (own).
use Rattle.std.specs.Prelude.{◌≡◌, ℕ, ◌+◌, ◌-◌, ◌<◌, ◌≤◌, List, [], ◌∷◌, length, take, Option, Some, None}
use Rattle.model_router.specs.Places.{nth}
use Rattle.weave_model.specs.Entries.{Entry}
use Rattle.weave_model.specs.Weavings.{Move}
use Rattle.weave_core.specs.declared.moves.Move.{Move as CoreMove}
use Rattle.weave_replay.specs.declared.journal.WovenJournal.{WovenJournal}
use Rattle.weave_replay.specs.Entries.{entries_of}
use Rattle.weave_replay.specs.Replays.{journals_of}
use Rattle.weave.specs.Unreached.{moves_to}

-- so many moves of each router were made: those that aren't left
pub record AreCounted (plans : List (List Move)) (tracks : List (List CoreMove)) (made : List ℕ)
    : Type 0 where
  pub size : length made ≡ length plans
  pub counted : (router count : ℕ) (plan : List Move) (left : List CoreMove)
      → nth made router ≡ Some count → nth plans router ≡ Some plan
      → nth tracks router ≡ Some left → count ≡ length plan - length left

-- how many moves journals are with a restart behind each
abbrev pub with_restarts : List (List Entry) → ℕ
with_restarts [] = 0
with_restarts (j ∷ js) = length j + 1 + with_restarts js

-- so many of each router's were made behind these journals, and the restart there
pub record AreAhead (made : List ℕ) (before : List WovenJournal) (ahead : List ℕ) : Type 0 where
  pub size : length ahead ≡ length made
  pub left : (router count rest : ℕ) → nth made router ≡ Some count
      → nth ahead router ≡ Some rest → rest ≡ count - with_restarts (journals_of router before)

-- so many entries were made of a journal that stands behind these others
abbrev pub IsMade : List ℕ → List WovenJournal → WovenJournal → ℕ → Type 0
IsMade made before j entries =
    (count : ℕ) → nth made j.router ≡ Some count → moves_to before j entries ≤ count

-- the first so many, one by one
abbrev pub AreMade : List ℕ → List WovenJournal → WovenJournal → ℕ → Type 0
AreMade made before j entries = (place : ℕ) → place < entries → IsMade made before j (place + 1)

-- all entries of the first so many journals
abbrev pub AreAllMade : List ℕ → List WovenJournal → ℕ → Type 0
AreAllMade made journals count =
    (place : ℕ) (j : WovenJournal) → place < count → nth journals place ≡ Some j
    → AreMade made (take place journals) j (length (entries_of j))

-- an entry of a journal is the first that isn't made
pub record IsNotMade (made : List ℕ) (before : List WovenJournal) (j : WovenJournal) (first : ℕ)
    : Type 0 where
  pub there : first < length (entries_of j)
  pub count : ℕ
  pub counted : nth made j.router ≡ Some count
  pub behind : count < moves_to before j (first + 1)
  pub earlier : AreMade made before j first

-- what is found in a journal: its first entry that isn't made, if any
abbrev pub IsFoundIn : List ℕ → List WovenJournal → WovenJournal → Option ℕ → Type 0
IsFoundIn made before j None = AreMade made before j (length (entries_of j))
IsFoundIn made before j (Some first) = IsNotMade made before j first

-- the first by journal and entry, both counted from 1
pub record IsFirstLeft (made : List ℕ) (journals : List WovenJournal) (journal entry : ℕ)
    : Type 0 where
  pub place : ℕ
  pub counted : journal ≡ place + 1
  pub j : WovenJournal
  pub at : nth journals place ≡ Some j
  pub first : ℕ
  pub numbered : entry ≡ first + 1
  pub in_it : IsNotMade made (take place journals) j first
  pub earlier : AreAllMade made journals place

-- what is found in journals
abbrev pub IsFound : List ℕ → List WovenJournal → Option (ℕ × ℕ) → Type 0
IsFound made journals None = AreAllMade made journals (length journals)
IsFound made journals (Some found) = IsFirstLeft made journals found.0 found.1
