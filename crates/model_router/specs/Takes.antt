-- An LSP taken and an SNP taken: the tables, and the answers of own LSPs that are outbid (ISO 10589
-- 7.3.15.1, 7.3.15.2, 7.3.16).
use Rattle.std.specs.Prelude.{ℕ, ◌/◌, ◌==◌, nat_lt, not, List, [], ◌∷◌, Option, Some, None, is_some, if◌then◌else◌}
use Rattle.isis_base.specs.declared.level.Level.{Level}
use Rattle.model_router.specs.declared.whose.Whose.{Whose}
use Rattle.model_router.specs.declared.whose.Whose.TheVariants as whose
use Rattle.model_router.specs.declared.lsp_case.LspCase.{LspCase}
use Rattle.model_router.specs.declared.lsp_case.LspCase.TheVariants as lsp
use Rattle.model_router.specs.declared.snp_case.SnpCase.{SnpCase}
use Rattle.model_router.specs.declared.snp_case.SnpCase.TheVariants as snp
use Rattle.model_router.specs.Maps.{find}
use Rattle.model_router.specs.Ranks.{number_of}
use Rattle.model_router.specs.Cells.{Cell, Heard, purged, purge_of}
use Rattle.model_router.specs.Books.{cell_at}
use Rattle.model_router.specs.LspTable.{met, hear_lsp}
use Rattle.model_router.specs.SnpTable.{SnpEntry, snp_case, hear_entry, hear_range}
use Rattle.model_router.specs.LetGos.{let_go}
use Rattle.model_router.specs.Routers.{Contents, LevelState, Router}
use Rattle.model_router.specs.Givens.{Given}
use Rattle.model_router.specs.Wanted.{wanted, bare}
use Rattle.model_router.specs.OwnLsps.{outbid, contents_or}

-- whose an LSP ID is: another system's, or one's own, issued or not (own)
abbrev pub whose_of : ℕ → LevelState → ℕ → Whose
whose_of system state id =
    if not (id / 65536 == system) then whose.Other
    else (if is_some (find state.own id) then whose.Issued else whose.Unissued)

-- what a step knows beside the level that it changes: what it is given, the router before the
-- event, and the level (own)
pub record Scene : Type 0 where
  pub given : Given
  pub router : Router
  pub level : Level

-- what an own LSP says when it is outbid: what is wanted of it (own)
abbrev pub answer_of : Scene → ℕ → Contents
answer_of scene id =
    let r = scene.router in
    contents_or (find (wanted scene.given r r scene.level) id) (bare r)

-- an own LSP is outbid; `last` is its purge, for the last number (7.3.16.1)
abbrev pub answer : Scene → LevelState → ℕ → ℕ → Cell → LevelState
answer scene state id above last =
    outbid scene.given scene.router scene.level state id above (answer_of scene id) last

-- ---- an LSP

-- the purge at the last number: of what is heard where that is newer, else of what is held (own)
abbrev pub last_purge : Option Cell → Heard → Cell
last_purge None h = purge_of (number_of h.rank) h.flags h.octets
last_purge (Some cell) h =
    if nat_lt cell.rank h.rank then purge_of (number_of h.rank) h.flags h.octets else purged cell

-- the level after an LSP is taken that meets a row; one whose purge is acknowledged without being
-- held is let go (7.3.15.1)
abbrev pub lsp_taken : Scene → LevelState → ℕ → Whose → Heard → LspCase → LevelState
lsp_taken scene state place whose h lsp.Outbid =
    answer scene state h.id (number_of h.rank) (last_purge (cell_at state.book h.id) h)
lsp_taken scene state place whose h lsp.PurgedOwn =
    record state { book = hear_lsp state.book place whose h }
lsp_taken scene state place whose h lsp.AckPurge =
    record state { book = hear_lsp state.book place whose h; gone = let_go state.gone h.id }
lsp_taken scene state place whose h lsp.Confused =
    record state { book = hear_lsp state.book place whose h }
lsp_taken scene state place whose h lsp.Stored =
    record state { book = hear_lsp state.book place whose h }
lsp_taken scene state place whose h lsp.Same =
    record state { book = hear_lsp state.book place whose h }
lsp_taken scene state place whose h lsp.Older =
    record state { book = hear_lsp state.book place whose h }

-- an LSP is taken (7.3.15.1)
unfoldable pub take_lsp : Scene → LevelState → ℕ → Whose → Heard → LevelState
take_lsp scene state place whose h = lsp_taken scene state place whose h (met state.book whose h)

-- ---- an SNP

-- own
abbrev pub held_purge : Option Cell → Cell
held_purge None = purge_of 0 0 []
held_purge (Some cell) = purged cell

-- the level after an SNP's entry is taken that meets a row (7.3.15.2)
abbrev pub entry_taken : Scene → LevelState → ℕ → Whose → SnpEntry → SnpCase → LevelState
entry_taken scene state place whose h snp.Nothing =
    record state { book = hear_entry state.book place whose h }
entry_taken scene state place whose h snp.Outbid =
    answer scene state h.id (number_of h.rank) (held_purge (cell_at state.book h.id))
entry_taken scene state place whose h snp.Confused =
    record state { book = hear_entry state.book place whose h }
entry_taken scene state place whose h snp.Same =
    record state { book = hear_entry state.book place whose h }
entry_taken scene state place whose h snp.Older =
    record state { book = hear_entry state.book place whose h }
entry_taken scene state place whose h snp.Newer =
    record state { book = hear_entry state.book place whose h }
entry_taken scene state place whose h snp.Asked =
    record state { book = hear_entry state.book place whose h }
entry_taken scene state place whose h snp.Unasked =
    record state { book = hear_entry state.book place whose h }

-- 7.3.15.2
unfoldable pub take_entry : Scene → LevelState → ℕ → ℕ → SnpEntry → LevelState
take_entry scene state system place h =
    let whose = whose_of system state h.id in
    entry_taken scene state place whose h (snp_case whose (cell_at state.book h.id) h)

-- an SNP's entries are taken, in order (7.3.15.2)
abbrev pub take_entries : Scene → LevelState → ℕ → ℕ → List SnpEntry → LevelState
take_entries scene state system place [] = state
take_entries scene state system place (h ∷ entries) =
    take_entries scene (take_entry scene state system place h) system place entries

-- a CSNP's range is taken; a PSNP has none (7.3.15.2)
abbrev pub take_range : LevelState → ℕ → Option (ℕ × ℕ) → List SnpEntry → LevelState
take_range state place None entries = state
take_range state place (Some range) entries =
    record state { book = hear_range state.book place range.0 range.1 entries }

-- an SNP is taken: its entries, then a CSNP's range (7.3.15.2)
unfoldable pub take_snp : Scene → LevelState → ℕ → ℕ → Option (ℕ × ℕ) → List SnpEntry → LevelState
take_snp scene state system place range entries =
    take_range (take_entries scene state system place entries) place range entries
