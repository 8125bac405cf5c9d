-- What a router of a plain network holds: of each LSP ID the join of its copies' keys (own).
use Rattle.std.specs.Prelude.{ℕ, ◌+◌, ◌==◌, nat_lt, List, [], ◌∷◌, Some, if◌then◌else◌}
use Rattle.isis_base.specs.declared.identifiers.LspId.{LspId}
use Rattle.isis_base.specs.declared.key.Key.{Key}
use Rattle.isis_base.specs.Keys.{rank}
use Rattle.lab_keys.specs.Held.{entry_number}
use Rattle.lab_keys.specs.KeysNet.{Net, has_pair}

-- the join of two copies of one LSP: the newer one
abbrev pub join_of_two : LspId × Key → LspId × Key → LspId × Key
join_of_two entry copy = if nat_lt (rank (Some entry.1)) (rank (Some copy.1)) then copy else entry

-- the entries with one copy more: it is joined to the entry of its LSP ID, and they stay by LSP ID (own)
abbrev pub joined : LspId × Key → List (LspId × Key) → List (LspId × Key)
joined copy [] = copy ∷ []
joined copy (entry ∷ entries) =
    if nat_lt (entry_number copy) (entry_number entry) then copy ∷ entry ∷ entries
    else if entry_number copy == entry_number entry then join_of_two entry copy ∷ entries
    else entry ∷ joined copy entries

-- the join of those of the copies, numbered from a number on, that are at the router (own)
abbrev pub join_of_copies : List (ℕ × ℕ) → ℕ → ℕ → List (LspId × Key) → List (LspId × Key)
join_of_copies places router number [] = []
join_of_copies places router number (copy ∷ copies) =
    let others = join_of_copies places router (number + 1) copies in
    if has_pair places number router then joined copy others else others

-- the keys that a router holds, by LSP ID: the join of all copies at it, in whatever order and however often they came
-- (own)
abbrev pub keys_at : Net → ℕ → List (LspId × Key)
keys_at net router = join_of_copies net.places router 1 net.copies
