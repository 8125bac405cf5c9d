-- An LSP heard: which row of the table it meets, and what the row does to the LSP ID's cell (ISO
-- 10589 7.3.15.1, 7.3.16; rows Outbid, PurgedOwn, AckPurge and Confused as this router has them on
-- every kind of circuit: own).
use Rattle.std.specs.Prelude.{ℕ, ◌==◌, nat_lt, Bool, true, false, ◌&&◌, ◌||◌, not, Option, Some, None, if◌then◌else◌}
use Rattle.std.specs.Option.{option_map}
use Rattle.model_router.specs.declared.whose.Whose.{Whose}
use Rattle.model_router.specs.declared.whose.Whose.TheVariants as whose
use Rattle.model_router.specs.declared.lsp_case.LspCase.{LspCase}
use Rattle.model_router.specs.declared.lsp_case.LspCase.TheVariants.{Outbid, PurgedOwn, AckPurge, Confused, Stored, Same, Older}
use Rattle.model_router.specs.Ranks.{number_of, is_purge, is_live}
use Rattle.model_router.specs.Sets.{has, with_one, without, only}
use Rattle.model_router.specs.Cells.{Cell, Heard, kept, purged, purge_of, flagged, srm_on, srm_off, ssn_off}
use Rattle.model_router.specs.Books.{Book, cell_at, rank_of, checksum_of, set_cell}

-- own
abbrev pub is_issued : Whose → Bool
is_issued whose.Other = false
is_issued whose.Issued = true
is_issued whose.Unissued = false

-- own
abbrev pub is_unissued : Whose → Bool
is_unissued whose.Other = false
is_unissued whose.Issued = false
is_unissued whose.Unissued = true

-- whether two live LSPs of one number have different checksums (ISO 10589 7.3.16.2)
abbrev pub differs : Option Cell → ℕ → ℕ → Bool
differs held rank checksum =
    is_live rank && rank_of held == rank && not (checksum_of held == checksum)

-- whether an LSP is newer than what is held (ISO 10589 7.3.16.1)
abbrev pub is_newer : Option Cell → ℕ → Bool
is_newer held rank = nat_lt (rank_of held) rank

-- which row an LSP meets that is heard: the first one that applies (7.3.15.1, 7.3.16)
unfoldable pub lsp_case : Whose → Option Cell → Heard → LspCase
lsp_case whose held h =
    if is_issued whose && (is_newer held h.rank || differs held h.rank h.checksum) then Outbid
    else (if is_unissued whose && is_newer held h.rank && is_live h.rank then PurgedOwn
    else (if is_purge h.rank && rank_of held == 0 then AckPurge
    else (if differs held h.rank h.checksum then Confused
    else (if is_newer held h.rank then Stored
    else (if rank_of held == h.rank then Same
    else Older)))))

-- SSN on the circuit heard on, where that is point-to-point (ISO 10589 7.3.15.1)
abbrev pub acked : ℕ → ℕ → Cell → Cell
acked p2p place cell =
    record cell { ssn = if has p2p place then with_one cell.ssn place else cell.ssn }

-- SSN behind a newer LSP: clear but on the circuit heard on, set there where it is point-to-point,
-- and there as it was on a LAN (ISO 10589 7.3.15.1)
abbrev pub ssn_stored : ℕ → ℕ → Option Cell → ℕ
ssn_stored p2p place None = if has p2p place then with_one 0 place else 0
ssn_stored p2p place (Some cell) = if has p2p place then with_one 0 place else only cell.ssn place

-- what a row makes of what was held; `place` is the circuit heard on (7.3.15.1, 7.3.16)
abbrev pub lsp_row : LspCase → ℕ → ℕ → ℕ → Option Cell → Heard → Option Cell
lsp_row Outbid opened p2p place held h = held
lsp_row PurgedOwn opened p2p place held h =
    Some (flagged (purge_of (number_of h.rank) h.flags h.octets) opened 0)
lsp_row AckPurge opened p2p place held h = None
lsp_row Confused opened p2p place held h =
    option_map (λ (cell : Cell). flagged (purged cell) opened 0) held
lsp_row Stored opened p2p place held h =
    Some (flagged (kept h) (without opened place) (ssn_stored p2p place held))
lsp_row Same opened p2p place held h =
    option_map (λ (cell : Cell). acked p2p place (srm_off cell place)) held
lsp_row Older opened p2p place held h =
    option_map (λ (cell : Cell). ssn_off (srm_on cell place) place) held

-- the row that an LSP meets in a book (7.3.15.1)
abbrev pub met : Book → Whose → Heard → LspCase
met book whose h = lsp_case whose (cell_at book h.id) h

-- the book after an LSP is heard on a circuit (7.3.15.1)
unfoldable pub hear_lsp : Book → ℕ → Whose → Heard → Book
hear_lsp book place whose h =
    set_cell book h.id (lsp_row (met book whose h) book.opened book.p2p place (cell_at book h.id) h)
