-- What is sent of pieces, and of a piece that is still filled (ISO 10589 7.3.15.3, 7.3.15.4; the
-- form: own).
use Rattle.std.specs.Prelude.{ℕ, ◌+◌, ◌-◌, ◌^◌, ◌==◌, nat_lt, List, [], ◌∷◌, ◌++◌, length, Vec, if◌then◌else◌}
use Rattle.std.specs.declared.alloc.Global.{Global}
use Rattle.isis_base.specs.declared.level.Level.{Level}
use Rattle.isis_base.specs.declared.entry.LspEntry.{LspEntry}
use Rattle.isis_base.specs.Identifiers.{lsp_number}
use Rattle.model_router.specs.SnpTable.{SnpEntry}
use Rattle.model_router.specs.SnpLists.{last_id}
use Rattle.model_router.specs.Datagrams.{Sent, Csnp}
use Rattle.flag_sync.specs.Heard.{entries_of}
use Rattle.snp_exchange.specs.declared.csnp.Piece.{Piece}

-- pieces as CSNPs of a level
abbrev pub sent : Level → List Piece → List Sent
sent level [] = []
sent level (piece ∷ set) =
    Csnp level (lsp_number piece.start) (lsp_number piece.end) (entries_of piece.entries)
    ∷ sent level set

-- what is still sent: from a start, entries that are in the piece that is filled, and those to come
abbrev pub filled : Level → ℕ → List SnpEntry → List SnpEntry → List Sent
filled level start here [] = Csnp level start (2 ^ 64 - 1) here ∷ []
filled level start here (h ∷ rest) =
    if length here == 75
    then Csnp level start (last_id here) here ∷ filled level (last_id here + 1) (h ∷ []) rest
    else filled level start (here ++ h ∷ []) rest

-- lists of entries, as the definitions have them
abbrev pub lists_of : List (Vec LspEntry Global) → List (List SnpEntry)
lists_of [] = []
lists_of (entries ∷ lists) = entries_of entries.items ∷ lists_of lists

-- the lists of entries that are in a list that is filled, and of those to come
abbrev pub listed : List SnpEntry → List SnpEntry → List (List SnpEntry)
listed here [] = if nat_lt 0 (length here) then here ∷ [] else []
listed here (h ∷ rest) =
    if length here == 75 then here ∷ listed (h ∷ []) rest else listed (here ++ h ∷ []) rest
