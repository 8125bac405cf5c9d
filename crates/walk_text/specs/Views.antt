-- The live view of level 1: what a router holds live, a purge being as nothing (ISO 10589 7.3.16; the form: own).
use Rattle.std.specs.Prelude.{ℕ, List, [], ◌∷◌, drop, map, if◌then◌else◌}
use Rattle.isis_base.specs.declared.identifiers.LspId.{LspId}
use Rattle.isis_base.specs.Identifiers.{lsp_number}
use Rattle.isis_base.specs.Keys.{rank}
use Rattle.isis_base.specs.declared.level.Level.TheVariants as level
use Rattle.model_router.specs.Ranks.{is_live, number_of}
use Rattle.model_router.specs.Cells.{Cell}
use Rattle.model_router.specs.Routers.{Router, book_of}
use Rattle.lsp_store.specs.declared.entry.Entry.{Entry}
use Rattle.lsp_store.specs.Databases.{live_of}

-- an LSP's ID, its sequence number, its flags octet and its TLVs (ISO 10589 9.8)
abbrev pub Held : Type 0
Held = ℕ × (ℕ × (ℕ × List ℕ))

abbrev pub held_of : ℕ × Cell → Held
held_of pair = (pair.0, (number_of pair.1.rank, (pair.1.flags, drop 27 pair.1.octets)))

-- those of the live cells, in order
abbrev pub view_in : List (ℕ × Cell) → List Held
view_in [] = []
view_in (pair ∷ cells) =
    if is_live pair.1.rank then held_of pair ∷ view_in cells else view_in cells

abbrev pub view_of : Router → List Held
view_of r = view_in (book_of r level.One).cells

-- ---- the same of a database

abbrev pub stored : LspId × Entry → Held
stored pair =
    (lsp_number pair.0, (number_of (rank pair.1.key), (pair.1.flags, drop 27 pair.1.octets)))

abbrev pub view_stored : List (LspId × Entry) → List Held
view_stored entries = map stored (live_of entries)
