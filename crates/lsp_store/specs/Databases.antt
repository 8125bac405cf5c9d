-- A database as contracts see it, and the causes of its faults (ISO 10589 7.3.15; the form: own).
use Rattle.std.specs.Prelude.{◌≡◌, ℕ, ◌+◌, ◌-◌, ◌^◌, ◌<◌, ◌≤◌, nat_lt, ◌==◌, Bool, false, not, List, [], ◌∷◌, length, Option, Some, None, is_some, if◌then◌else◌}
use Rattle.isis_base.specs.declared.identifiers.LspId.{LspId}
use Rattle.isis_base.specs.declared.key.Key.{Key}
use Rattle.isis_base.specs.Identifiers.{lsp_number}
use Rattle.isis_base.specs.Keys.{rank}
use Rattle.lsp_store.specs.declared.entry.Entry.{Entry}
use Rattle.lsp_store.specs.declared.fault.StoreFault.{StoreFault}
use Rattle.lsp_store.specs.declared.fault.StoreFault.TheVariants.{Full, OutOfMemory}
use Rattle.lsp_store.specs.Maps.{find, put, erase, change_at}

-- the database of a level: the entries in order, for how many more of them memory is taken
-- already, and how often a key changed
pub record Database : Type 0 where
  pub entries : List (LspId × Entry)
  pub spare : ℕ
  pub changes : ℕ

-- the key that an entry gives, if there is one
abbrev pub key_of : Option Entry → Option Key
key_of None = None
key_of (Some entry) = entry.key

-- the count of changes, where a key was one and is another
abbrev pub count_after : ℕ → Option Key → Option Key → ℕ
count_after changes before after =
    if rank before == rank after
    then changes
    else (if nat_lt changes (2 ^ 64 - 1) then changes + 1 else changes)

-- with an LSP ID's entry set
abbrev pub with_entry : Database → LspId → Entry → Database
with_entry old id entry = record {
  entries = put old.entries id entry;
  spare = if is_some (find old.entries (lsp_number id)) then old.spare else old.spare - 1;
  changes = count_after old.changes (key_of (find old.entries (lsp_number id))) entry.key;
}

-- without the number's entry
abbrev pub without_entry : Database → ℕ → Database
without_entry old n = record {
  entries = erase old.entries n;
  spare = old.spare;
  changes = count_after old.changes (key_of (find old.entries n)) None;
}

-- with the number's entry changed, where there is one
abbrev pub with_change : Database → ℕ → (Entry → Entry) → Database
with_change old n f = record {
  entries = change_at f old.entries n;
  spare = old.spare;
  changes =
      count_after old.changes (key_of (find old.entries n))
      (key_of (find (change_at f old.entries n) n));
}

-- an entry with a second less left, where that isn't 0 (7.3.16.3)
abbrev pub one_less : Entry → Entry
one_less entry = record entry { left = entry.left - 1 }

-- whether an entry has no seconds left
abbrev pub is_over : Entry → Bool
is_over entry = entry.left == 0

-- when an entry isn't put: the LSP ID has none, and 65,536 are there; or else it has none, and no
-- room is spare
abbrev pub PutCause : Database → ℕ → StoreFault → Type 0
PutCause old n Full = (find old.entries n ≡ None) × (65536 ≤ length old.entries)
PutCause old n OutOfMemory =
    (find old.entries n ≡ None) × (length old.entries < 65536) × (old.spare ≡ 0)

-- when room isn't taken
abbrev pub ReserveCause : Database → ℕ → StoreFault → Type 0
ReserveCause old more Full = 65536 < length old.entries + more
ReserveCause old more OutOfMemory = (length old.entries + more ≤ 65536) × (old.spare < more)

abbrev pub is_live_key : Option Key → Bool
is_live_key None = false
is_live_key (Some key) = not key.purged

-- whether an entry is live: it has a key that isn't purged
abbrev pub is_live : Entry → Bool
is_live entry = is_live_key entry.key

-- the pairs of live entries
abbrev pub live_of : List (LspId × Entry) → List (LspId × Entry)
live_of [] = []
live_of (pair ∷ pairs) = if is_live pair.1 then pair ∷ live_of pairs else live_of pairs
