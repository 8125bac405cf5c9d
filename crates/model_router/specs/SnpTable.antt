-- A sequence number PDU heard: which row of the table an entry meets, what the row does to the LSP
-- ID's cell, and the range of a CSNP (ISO 10589 7.3.15.2; rows Outbid, Confused, Asked and Unasked
-- as this router has them: own).
use Rattle.std.specs.Prelude.{ℕ, ◌==◌, nat_lt, nat_le, Bool, true, false, ◌&&◌, ◌||◌, not, List, [], ◌∷◌, Option, Some, None, if◌then◌else◌}
use Rattle.std.specs.Option.{option_map}
use Rattle.model_router.specs.declared.whose.Whose.{Whose}
use Rattle.model_router.specs.declared.snp_case.SnpCase.{SnpCase}
use Rattle.model_router.specs.declared.snp_case.SnpCase.TheVariants.{Nothing, Outbid, Confused, Same, Older, Newer, Asked, Unasked}
use Rattle.model_router.specs.Maps.{each}
use Rattle.model_router.specs.Ranks.{is_live}
use Rattle.model_router.specs.Sets.{has, without}
use Rattle.model_router.specs.Waits.{due_at}
use Rattle.model_router.specs.Cells.{Cell, purged, empty_cell, flagged, srm_on, ssn_on, ssn_off}
use Rattle.model_router.specs.Books.{Book, cell_at, rank_of, is_full, set_cell}
use Rattle.model_router.specs.LspTable.{is_issued, differs}

-- what a sequence number PDU says of one LSP (ISO 10589 9.10)
pub record SnpEntry : Type 0 where
  pub id : ℕ
  pub rank : ℕ
  pub lifetime : ℕ
  pub checksum : ℕ

-- which row an entry meets: the first one that applies (7.3.15.2)
unfoldable pub snp_case : Whose → Option Cell → SnpEntry → SnpCase
snp_case whose held h =
    if h.rank == 0 && rank_of held == 0 then Nothing
    else (if differs held h.rank h.checksum && is_issued whose then Outbid
    else (if differs held h.rank h.checksum then Confused
    else (if rank_of held == h.rank then Same
    else (if nat_lt h.rank (rank_of held) then Older
    else (if nat_lt 0 (rank_of held) then Newer
    else (if nat_lt 0 h.lifetime && nat_lt 0 h.checksum then Asked
    else Unasked))))))

-- whether a row sets a flag (own)
abbrev pub sets_flag : SnpCase → Bool
sets_flag Nothing = false
sets_flag Outbid = true
sets_flag Confused = true
sets_flag Same = false
sets_flag Older = true
sets_flag Newer = true
sets_flag Asked = true
sets_flag Unasked = false

-- on a point-to-point circuit SRM is clear there (7.3.15.2)
abbrev pub freed : ℕ → ℕ → Cell → Cell
freed p2p place cell = record cell {
  srm = if has p2p place then without cell.srm place else cell.srm;
  waits = if has p2p place then due_at cell.waits place else cell.waits;
}

-- SSN on what is held, or on an empty entry, which isn't made in a full book (7.3.15.2)
abbrev pub asked : Bool → ℕ → Option Cell → Option Cell
asked full place (Some cell) = Some (ssn_on cell place)
asked full place None = if full then None else Some (ssn_on empty_cell place)

-- what a row makes of what was held; `place` is the circuit heard on (7.3.15.2)
abbrev pub snp_row : SnpCase → Bool → ℕ → ℕ → ℕ → Option Cell → Option Cell
snp_row Nothing full opened p2p place held = held
snp_row Outbid full opened p2p place held = held
snp_row Confused full opened p2p place held =
    option_map (λ (cell : Cell). flagged (purged cell) opened 0) held
snp_row Same full opened p2p place held = option_map (freed p2p place) held
snp_row Older full opened p2p place held =
    option_map (λ (cell : Cell). ssn_off (srm_on cell place) place) held
snp_row Newer full opened p2p place held =
    option_map (λ (cell : Cell). ssn_on (freed p2p place cell) place) held
snp_row Asked full opened p2p place held = asked full place held
snp_row Unasked full opened p2p place held = held

-- the book after an entry is heard on a circuit (7.3.15.2)
unfoldable pub hear_entry : Book → ℕ → Whose → SnpEntry → Book
hear_entry book place whose h =
    let held = cell_at book h.id in
    set_cell book h.id
    (snp_row (snp_case whose held h) (is_full book) book.opened book.p2p place held)

-- whether an LSP ID is listed (own)
abbrev pub lists : List SnpEntry → ℕ → Bool
lists [] id = false
lists (h ∷ entries) id = h.id == id || lists entries id

-- whether a CSNP of this range and these entries sets SRM for what is held of an LSP ID: it is live
-- and isn't listed (7.3.15.2)
abbrev pub is_missed : ℕ → ℕ → List SnpEntry → ℕ → Cell → Bool
is_missed start end entries id cell =
    is_live cell.rank && nat_le start id && nat_le id end && not (lists entries id)

-- the book after a CSNP's range is heard on a circuit (7.3.15.2)
unfoldable pub hear_range : Book → ℕ → ℕ → ℕ → List SnpEntry → Book
hear_range book place start end entries =
    record book {
      cells = each
          (λ id cell. if is_missed start end entries id cell then srm_on cell place else cell)
          book.cells;
    }
