-- SRM set on a circuit for the LSP IDs that pass a test of their number and rank (own).
use Rattle.std.specs.Prelude.{ℕ, Bool, false, ◌&&◌, ◌||◌, not, nat_lt, List, [], ◌∷◌, if◌then◌else◌}
use Rattle.isis_base.specs.declared.identifiers.LspId.{LspId}
use Rattle.isis_base.specs.declared.entry.LspEntry.{LspEntry}
use Rattle.isis_base.specs.Identifiers.{lsp_number}
use Rattle.isis_base.specs.Keys.{rank}
use Rattle.model_router.specs.Ranks.{is_live}
use Rattle.model_router.specs.Cells.{Cell}
use Rattle.model_router.specs.SnpTable.{lists}
use Rattle.lsp_store.specs.declared.entry.Entry.{Entry}
use Rattle.lsp_store.specs.Maps.{change_at}
use Rattle.flag_sync.specs.declared.flag_row.FlagRow.{FlagRow}
use Rattle.flag_sync.specs.declared.deed.SrmDeed.TheVariants as srm
use Rattle.flag_sync.specs.FlagRows.{srm_done}
use Rattle.flag_sync.specs.Heard.{entries_of}

-- whether an entry passes the test
abbrev pub passes : (ℕ → ℕ → Bool) → LspId → Entry → Bool
passes test id entry = test (lsp_number id) (rank entry.key)

-- rows after SRM was set for the entries that pass, one after another
abbrev pub marks : (ℕ → ℕ → Bool) → ℕ → List (LspId × Entry) → List (LspId × FlagRow)
    → List (LspId × FlagRow)
marks test place [] rows = rows
marks test place (pair ∷ entries) rows =
    marks test place entries
    (if passes test pair.0 pair.1
    then change_at (srm_done srm.Set place) rows (lsp_number pair.0)
    else rows)

-- whether some entry passes
abbrev pub some_pass : (ℕ → ℕ → Bool) → List (LspId × Entry) → Bool
some_pass test [] = false
some_pass test (pair ∷ entries) = passes test pair.0 pair.1 || some_pass test entries

-- whether some cell passes a test
abbrev pub any_cell : (ℕ → Cell → Bool) → List (ℕ × Cell) → Bool
any_cell test [] = false
any_cell test (pair ∷ cells) = test pair.0 pair.1 || any_cell test cells

-- a key is held
abbrev pub has_key : ℕ → ℕ → Bool
has_key n rank = nat_lt 0 rank

-- it is live and isn't listed
abbrev pub is_unlisted : List LspEntry → ℕ → ℕ → Bool
is_unlisted listed n rank = is_live rank && not (lists (entries_of listed) n)
