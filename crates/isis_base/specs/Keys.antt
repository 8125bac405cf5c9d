-- Which of two keys is newer, and the newer of two (ISO 10589 7.3.16.1, 7.3.16.4; the form: own).
use Rattle.std.specs.Prelude.{◌≡◌, ℕ, ◌+◌, ◌*◌, ◌<◌, nat_lt, Option, Some, None, if◌then◌else◌, List, codes}
use Rattle.isis_base.specs.declared.key.Key.{Key}
use Rattle.isis_base.specs.declared.order.Order3.{Order3}
use Rattle.isis_base.specs.declared.order.Order3.TheVariants.{Older, Same, Newer}
use Rattle.isis_base.specs.declared.entry.LspEntry.{LspEntry}

-- a key's rank: nothing is below every key, a greater number is newer, and of one number the purge is
-- newer (ISO 10589 7.3.16)
abbrev pub rank : Option Key → ℕ
rank None = 0
rank (Some key) = 2 * key.number + (if key.purged then 1 else 0)

-- how a key of rank a stands against one of rank b
abbrev pub StandsAgainst : Order3 → ℕ → ℕ → Type 0
StandsAgainst Older a b = a < b
StandsAgainst Same a b = a ≡ b
StandsAgainst Newer a b = b < a

-- how one key stands against another, in a word (own)
abbrev pub order_text : Order3 → List ℕ
order_text Older = codes "older"
order_text Same = codes "same"
order_text Newer = codes "newer"

-- the newer of two keys
abbrev pub join_of : Option Key → Option Key → Option Key
join_of a b = if nat_lt (rank a) (rank b) then b else a

-- the rank of the key that an entry names: none at number 0, purged at lifetime 0 (ISO 10589 9.10)
abbrev pub entry_rank : LspEntry → ℕ
entry_rank entry =
    if nat_lt 0 entry.number then 2 * entry.number + (if nat_lt 0 entry.lifetime then 0 else 1)
    else 0
