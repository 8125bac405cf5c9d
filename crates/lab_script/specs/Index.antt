-- How names lie in memory: a list, and an index into it (own).
use Rattle.std.specs.Prelude.{◌≡◌, ℕ, List, map}
use Rattle.std.specs.Borrow.{Bor}
use Rattle.std.specs.Str.{bytes_eq}
use Rattle.std.specs.HashMap.{get_by}
use Rattle.lab_script.specs.declared.names.Names.TheInside.{Inside}
use Rattle.lab_script.specs.Names.{number_of_name}

abbrev pub names_of : Inside → List (List ℕ)
names_of a = map (λ name. name.now) a.list.items

-- the index finds each name's number
pub record IsIndexed (a : Inside) : Type 0 where
  pub finds : (name : List ℕ) → get_by (λ (other : Bor (List ℕ)). bytes_eq name other.now) a.index
      ≡ number_of_name (names_of a) name
