-- What is seen of entries, one by one (own).
use Rattle.std.specs.Prelude.{◌≡◌, ℕ, List, [], ◌∷◌, drop, Option, true, false, Some, None, if◌then◌else◌}
use Rattle.isis_base.specs.declared.identifiers.LspId.{LspId}
use Rattle.isis_base.specs.declared.level.Level.TheVariants as level
use Rattle.isis_base.specs.Identifiers.{lsp_number}
use Rattle.isis_base.specs.Keys.{rank}
use Rattle.model_router.specs.Ranks.{is_live, number_of}
use Rattle.model_router.specs.Routers.{Contents, Router}
use Rattle.model_router.specs.OwnLsps.{same_contents}
use Rattle.lsp_store.specs.declared.entry.Entry.{Entry}
use Rattle.lab_facts.specs.declared.look.Look.{Look}
use Rattle.lab_facts.specs.declared.look.Look.TheVariants.{New, Same, Other}
use Rattle.lab_facts.specs.declared.said.Said.{Said}
use Rattle.lab_facts.specs.Sightings.{Sighting, Memory, Remembers, after, sightings_of}

-- what is kept of contents
abbrev pub contents_of : Said → Contents
contents_of said = record { flags = said.flags; tlvs = said.tlvs }

abbrev pub kept_of : List (ℕ × Said) → List (ℕ × Contents)
kept_of [] = []
kept_of (pair ∷ kept) = (pair.0, contents_of pair.1) ∷ kept_of kept

-- what a live entry shows
abbrev pub seen_of : LspId × Entry → Sighting
seen_of pair = record {
  id = lsp_number pair.0;
  number = number_of (rank pair.1.key);
  contents = record { flags = pair.1.flags; tlvs = drop 27 pair.1.octets };
}

-- what the live ones of these show, in order
abbrev pub live_of : List (LspId × Entry) → List Sighting
live_of [] = []
live_of (pair ∷ entries) =
    if is_live (rank pair.1.key) then seen_of pair ∷ live_of entries else live_of entries

-- how contents compare with the first ones
abbrev pub Compares : Look → Option Contents → Contents → Type 0
Compares New first contents = first ≡ None
Compares Same first contents =
    (old : Contents) × (first ≡ Some old) × (same_contents old contents ≡ true)
Compares Other first contents =
    (old : Contents) × (first ≡ Some old) × (same_contents old contents ≡ false)

-- some was seen, and with what is left it is the whole
pub record Left (memory : Memory) (more whole : List Sighting) : Type 0 where
  pub seen : List Sighting
  pub have : Remembers memory seen
  pub rest : after more seen ≡ whole

-- ---- both levels

-- states in the order in which they were, as a list with the latest first
abbrev pub past_after : List Router → List Router → List Router
past_after [] past = past
past_after (r ∷ rs) past = past_after rs (r ∷ past)

-- each level's memory is of what routers in these states held
pub record Keep (one two : Memory) (past : List Router) : Type 0 where
  pub level_one : Remembers one (sightings_of past level.One)
  pub level_two : Remembers two (sightings_of past level.Two)
