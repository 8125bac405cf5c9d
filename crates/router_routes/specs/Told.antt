-- What the live LSPs of a level tell routes: their flags and what stands behind their headers, by LSP
-- ID (ISO 10589 7.2.5; the form: own).
use Rattle.std.specs.Prelude.{ℕ, false, List, [], ◌∷◌, ◌++◌, drop, map, replicate, Some, if◌then◌else◌}
use Rattle.std.proofs.Common.{arith}
use Rattle.isis_base.specs.declared.identifiers.LspId.{LspId}
use Rattle.isis_base.specs.declared.key.Key.{Key}
use Rattle.model_router.specs.Ranks.{is_live}
use Rattle.model_router.specs.Cells.{Cell}
use Rattle.model_router.specs.Numbers.{lsp_id}
use Rattle.lsp_store.specs.declared.entry.Entry.{Entry}
use Rattle.lsp_store.specs.Databases.{live_of}

-- the key of what is live: routes don't look at its number (own)
abbrev pub live_key : Key
live_key = record { number = 1; purged = false; numbered = omega arith }

-- what routes look at of an LSP's octets: those behind its header, a blank one before them (ISO 10589
-- 9.8; the form: own)
unfoldable pub shown : List ℕ → List ℕ
shown octets = replicate 27 0 ++ drop 27 octets

-- a live LSP with nothing but what routes look at (own)
abbrev pub told : ℕ → List ℕ → Entry
told flags octets =
    record { key = Some live_key; checksum = 0; flags = flags; left = 0; octets = shown octets }

-- what a database tells (own)
abbrev pub told_pair : LspId × Entry → LspId × Entry
told_pair pair = (pair.0, told pair.1.flags pair.1.octets)

abbrev pub told_in : List (LspId × Entry) → List (LspId × Entry)
told_in entries = map told_pair (live_of entries)

-- what the cells of the router's model tell (own)
abbrev pub told_by : List (ℕ × Cell) → List (LspId × Entry)
told_by [] = []
told_by (pair ∷ cells) =
    if is_live pair.1.rank
    then (lsp_id pair.0, told pair.1.flags pair.1.octets) ∷ told_by cells
    else told_by cells
