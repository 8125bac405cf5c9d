-- What sequence number PDUs say of entries (ISO 10589 9.10; of empty entries: own).
use Rattle.std.specs.Prelude.{ℕ, ◌+◌, ◌≤◌, nat_lt, Bool, false, List, [], ◌∷◌, Option, Some, None, if◌then◌else◌}
use Rattle.isis_base.specs.declared.identifiers.LspId.{LspId}
use Rattle.isis_base.specs.declared.key.Key.{Key}
use Rattle.isis_base.specs.declared.entry.LspEntry.{LspEntry}
use Rattle.isis_base.specs.Identifiers.{lsp_number}
use Rattle.model_router.specs.Sets.{has}
use Rattle.lsp_store.specs.declared.entry.Entry.{Entry}
use Rattle.flag_sync.specs.declared.flag_row.FlagRow.{FlagRow}

-- of a purge lifetime and checksum 0, of an empty entry number 0 too; a number 0 is no key
abbrev pub key_said : LspId → Entry → Option Key → LspEntry
key_said id entry None = record { lifetime = 0; id = id; number = 0; checksum = 0 }
key_said id entry (Some key) =
    if nat_lt 0 key.number
    then record {
      lifetime = if key.purged then 0 else entry.left;
      id = id;
      number = key.number;
      checksum = if key.purged then 0 else entry.checksum;
    }
    else record { lifetime = 0; id = id; number = 0; checksum = 0 }

abbrev pub said : LspId → Entry → LspEntry
said id entry = key_said id entry entry.key

abbrev pub is_numbered : Option Key → Bool
is_numbered None = false
is_numbered (Some key) = nat_lt 0 key.number

-- of the entries that have a key
abbrev pub said_keys : List (LspId × Entry) → List LspEntry
said_keys [] = []
said_keys (pair ∷ entries) =
    if is_numbered pair.1.key then said pair.0 pair.1 ∷ said_keys entries else said_keys entries

-- of the entries whose SSN stands on a circuit
abbrev pub said_owed : ℕ → List (LspId × Entry) → List (LspId × FlagRow) → List LspEntry
said_owed place [] rows = []
said_owed place (pair ∷ entries) [] = said_owed place entries []
said_owed place (pair ∷ entries) (row ∷ rows) =
    if has row.1.ssn place
    then said pair.0 pair.1 ∷ said_owed place entries rows
    else said_owed place entries rows

-- the LSP IDs of what is said rise
abbrev pub SaidRise : ℕ → List LspEntry → Type 0
SaidRise least [] = Unit {0}
SaidRise least (e ∷ entries) =
    (least ≤ lsp_number e.id) × SaidRise (lsp_number e.id + 1) entries
