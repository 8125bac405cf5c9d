-- What routers held of their own LSP IDs, and which of these are doubled (own).
use Rattle.std.specs.Prelude.{◌≡◌, ℕ, ◌+◌, ◌*◌, ◌/◌, ◌<◌, ◌==◌, ◌&&◌, Bool, List, [], ◌∷◌, drop, Option, Some, None, if◌then◌else◌}
use Rattle.isis_base.specs.declared.level.Level.{Level}
use Rattle.model_router.specs.Maps.{find}
use Rattle.model_router.specs.Ranks.{is_live, number_of}
use Rattle.model_router.specs.Cells.{Cell}
use Rattle.model_router.specs.LetGos.{with_id}
use Rattle.model_router.specs.Routers.{Contents, Router, book_of}
use Rattle.model_router.specs.OwnLsps.{same_contents}

-- ---- what is seen

-- a live LSP that a router held under an LSP ID of its own: the number, and the contents behind the
-- header's 27 octets (ISO 10589 9.8)
pub record Sighting : Type 0 where
  pub id : ℕ
  pub number : ℕ
  pub contents : Contents

-- what a live cell shows
abbrev pub sighting : ℕ → Cell → Sighting
sighting id cell = record {
  id = id;
  number = number_of cell.rank;
  contents = record { flags = cell.flags; tlvs = drop 27 cell.octets };
}

-- whether an LSP ID is a system's own: its first six octets are the system ID (ISO 10589 9.8)
abbrev pub is_own : ℕ → ℕ → Bool
is_own system id = id / 65536 == system

-- what a system holds live of its own LSP IDs, in order
abbrev pub own_lsps : ℕ → List (ℕ × Cell) → List Sighting
own_lsps system [] = []
own_lsps system (pair ∷ cells) =
    if is_own system pair.0 && is_live pair.1.rank
    then sighting pair.0 pair.1 ∷ own_lsps system cells
    else own_lsps system cells

-- what was seen so far, the latest first, after more was seen in order
abbrev pub after : List Sighting → List Sighting → List Sighting
after [] seen = seen
after (s ∷ more) seen = after more (s ∷ seen)

-- what routers in these states held live of their own LSP IDs of a level, the latest state first
abbrev pub sightings_of : List Router → Level → List Sighting
sightings_of [] level = []
sightings_of (r ∷ past) level =
    after (own_lsps r.config.system (book_of r level).cells) (sightings_of past level)

-- ---- what is doubled

-- own
abbrev pub earlier : Option Contents → Option Contents → Option Contents
earlier None now = now
earlier (Some contents) now = Some contents

-- the contents that were seen first of an LSP ID and a number
unfoldable pub first_of : List Sighting → ℕ → ℕ → Option Contents
first_of [] id number = None
first_of (s ∷ seen) id number =
    earlier (first_of seen id number)
    (if s.id == id && s.number == number then Some s.contents else None)

-- the LSP IDs that are doubled, after these first contents of one LSP ID and number other ones are
-- seen
abbrev pub doubled_with : Option Contents → Sighting → List ℕ → List ℕ
doubled_with None s ids = ids
doubled_with (Some first) s ids =
    if same_contents first s.contents then ids else with_id ids s.id

-- the LSP IDs of which a number was seen with other contents than it was first, in order
unfoldable pub doubled_of : List Sighting → List ℕ
doubled_of [] = []
doubled_of (s ∷ seen) = doubled_with (first_of seen s.id s.number) s (doubled_of seen)

-- the LSP IDs of a level of which a router of their system, in these states, held two contents live
-- under one number, in order (own)
abbrev pub doubled_in : List Router → Level → List ℕ
doubled_in past level = doubled_of (sightings_of past level)

-- ---- what is remembered

-- the first contents, by LSP ID and number as one number, and the LSP IDs that are doubled
pub record Memory : Type 0 where
  pub first : List (ℕ × Contents)
  pub doubled : List ℕ

-- an LSP ID and a number of 32 bits as one number
abbrev pub key_of : ℕ → ℕ → ℕ
key_of id number = 4294967296 * id + number

-- a history remembers what was seen, the latest first
pub record Remembers (memory : Memory) (seen : List Sighting) : Type 0 where
  pub first : (id number : ℕ) → number < 4294967296
      → find memory.first (key_of id number) ≡ first_of seen id number
  pub doubled : memory.doubled ≡ doubled_of seen
