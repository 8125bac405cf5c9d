-- What lent parts of a document are seen as (own).
use Rattle.std.specs.Prelude.{ℕ, List, map, Option, Ok, Err}
use Rattle.std.specs.Borrow.{Bor}
use Rattle.toml.specs.Data.{Data}
use Rattle.toml.specs.View.{view}
use Rattle.toml.specs.declared.value.Value.{Value}
use Rattle.std.specs.List.{filter_map}
use Rattle.std.specs.Option.{option_map}
use Rattle.daemon_config.specs.Steps.{Reading}

abbrev pub value_seen : Reading (Bor Value) → Reading Data
value_seen (Ok value) = Ok (view value.now)
value_seen (Err fault) = Err fault

abbrev pub text_seen : Reading (Bor (List ℕ)) → Reading (List ℕ)
text_seen (Ok text) = Ok text.now
text_seen (Err fault) = Err fault

abbrev pub items_seen : Option (Bor (List Value)) → Option (List Data)
items_seen items = option_map (λ (list : Bor (List Value)). map view list.now) items

-- the items of a list, each as a part of one kind
abbrev pub parts_seen : {A : Type 0} → (Data → Option A) → List Value → List A
parts_seen seen items = filter_map seen (map view items)

abbrev pub list_seen : {A : Type 0} → (Data → Option A) → Reading (Bor (List Value))
    → Reading (List A)
list_seen seen (Ok items) = Ok (parts_seen seen items.now)
list_seen seen (Err fault) = Err fault
