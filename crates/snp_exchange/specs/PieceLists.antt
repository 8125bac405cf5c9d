-- The pieces of a CSNP set as a list, from what is said of the keys (ISO 10589 7.3.15.3; the form:
-- own).
use Rattle.std.specs.Prelude.{ℕ, ◌+◌, ◌-◌, ◌^◌, ◌==◌, Bool, List, [], ◌∷◌, ◌++◌, length, Option, Some, None, if◌then◌else◌}
use Rattle.isis_base.specs.declared.level.Level.{Level}
use Rattle.isis_base.specs.declared.identifiers.LspId.{LspId}
use Rattle.isis_base.specs.declared.entry.LspEntry.{LspEntry}
use Rattle.isis_base.specs.Identifiers.{lsp_number}
use Rattle.model_router.specs.SnpLists.{last_id}
use Rattle.model_router.specs.Datagrams.{Sent, Csnp}
use Rattle.flag_sync.specs.Heard.{entries_of}
use Rattle.snp_exchange.specs.declared.piece_walk.PieceWalk.{PieceWalk}

-- a piece: the numbers of the first and the last LSP ID of its range, and what is said in it
-- (9.10)
pub record PieceSaid : Type 0 where
  pub start : ℕ
  pub end : ℕ
  pub entries : List LspEntry

-- what an item of the walk over pieces shows
abbrev pub piece_said : PieceWalk → PieceSaid
piece_said walk =
    record { start = lsp_number walk.start; end = lsp_number walk.end; entries = walk.entries }

-- pieces as CSNPs of a level
abbrev pub said_sent : Level → List PieceSaid → List Sent
said_sent level [] = []
said_sent level (piece ∷ pieces) =
    Csnp level piece.start piece.end (entries_of piece.entries) ∷ said_sent level pieces

-- the pieces from a start on, of keys that are in the first one and of those that follow
abbrev pub said_pieces : ℕ → List LspEntry → List LspEntry → List PieceSaid
said_pieces start here [] =
    record { start = start; end = 2 ^ 64 - 1; entries = here } ∷ []
said_pieces start here (said ∷ rest) =
    if length here == 75
    then record { start = start; end = last_id (entries_of here); entries = here }
    ∷ said_pieces (last_id (entries_of here) + 1) (said ∷ []) rest
    else said_pieces start (here ++ said ∷ []) rest

-- the pieces that are left: none once the last one was given
abbrev pub left_pieces : Bool → ℕ → List LspEntry → List PieceSaid
left_pieces done start keys = if done then [] else said_pieces start [] keys

-- the LSP ID of the first key (own)
abbrev pub first_said : List LspEntry → Option LspId
first_said [] = None
first_said (said ∷ rest) = Some said.id
