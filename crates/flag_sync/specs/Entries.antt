-- Entries as cells without their flags, and their purges (ISO 10589 7.3.16.4; the form: own).
use Rattle.std.specs.Prelude.{ℕ, ◌≤◌, true, List, [], ◌∷◌, length, nat_lt, if◌then◌else◌, Option, Some, None}
use Rattle.isis_base.specs.declared.identifiers.LspId.{LspId}
use Rattle.isis_base.specs.declared.key.Key.{Key}
use Rattle.model_router.specs.Cells.{Cell, header_of}
use Rattle.lsp_store.specs.declared.entry.Entry.{Entry}
use Rattle.flag_sync.specs.declared.flag_row.FlagRow.{FlagRow}
use Rattle.flag_sync.specs.FlagRows.{waits_of}

-- a cell with the flags of a row
abbrev pub with_row : Cell → FlagRow → Cell
with_row cell row = record cell { srm = row.srm; ssn = row.ssn; waits = waits_of row.waits }

abbrev pub key_purged : Option Key → Option Key
key_purged None = None
key_purged (Some key) = Some (record key { purged = true })

-- the entry's purge, where it has the octets of a header
abbrev pub purged_entry : Entry → Entry
purged_entry entry =
    if nat_lt (length entry.octets) 27
    then entry
    else record entry {
      key = key_purged entry.key;
      checksum = 0;
      left = 60;
      octets = header_of entry.octets;
    }

-- where there is a key there are the octets of a header
abbrev pub HasHeader : Option Key → List ℕ → Type 0
HasHeader None octets = Unit {0}
HasHeader (Some key) octets = 27 ≤ length octets

abbrev pub AllHaveHeaders : List (LspId × Entry) → Type 0
AllHaveHeaders [] = Unit {0}
AllHaveHeaders (pair ∷ entries) = HasHeader pair.1.key pair.1.octets × AllHaveHeaders entries
