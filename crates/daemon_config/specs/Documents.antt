-- What stands in a document: the items of lists, and the names of a table's members (TOML 1.1).
use Rattle.std.specs.Prelude.{ℕ, Bool, List, [], ◌∷◌, Option, Some, None, is_some, if◌then◌else◌}
use Rattle.std.specs.List.{list_all, list_any, filter_map}
use Rattle.std.specs.Option.{option_map}
use Rattle.std.specs.Str.{is_utf8, bytes_eq}
use Rattle.toml.specs.Data.{Data, Items, no_items, item, Members, no_members, member, as_array, as_table}
use Rattle.toml.specs.Parse.{parse_document}
use Rattle.daemon_config.specs.declared.fault.ConfigKey.{ConfigKey}
use Rattle.daemon_config.specs.Words.{member_name}

-- the table that octets are the text of
unfoldable pub document_in : List ℕ → Option Members
document_in text = if is_utf8 text then parse_document text else None

-- the items of a list, in order
abbrev pub items_in : Items → List Data
items_in no_items = []
items_in (item d items) = d ∷ items_in items

-- the names of a table's members
abbrev pub names_in : Members → List (List ℕ)
names_in no_members = []
names_in (member name d members) = name ∷ names_in members

-- the tables among the items of a list
abbrev pub tables_in : List Data → List Members
tables_in items = filter_map as_table items

-- the items of a list; nothing where it is none
abbrev pub list_at : Data → Option (List Data)
list_at d = option_map items_in (as_array d)

-- items that are all of one kind, seen as that kind; nothing where one is of another
abbrev pub all_seen : {A : Type 0} → (Data → Option A) → List Data → Option (List A)
all_seen seen items =
    if list_all (λ d. is_some (seen d)) items then Some (filter_map seen items) else None

-- whether a name is that of one of these keys
abbrev pub is_named : List ConfigKey → List ℕ → Bool
is_named keys name = list_any (λ key. bytes_eq name (member_name key)) keys

-- whether a table has no other keys than these
abbrev pub has_only : List ConfigKey → Members → Bool
has_only keys table = list_all (is_named keys) (names_in table)
