-- Lost deliveries with the names of their routers (own).
use Rattle.std.specs.Prelude.{ℕ, List, [], Option, Some, None, slice_get}
use Rattle.lossy_runs.specs.declared.loss.Loss.{Loss}
use Rattle.losses_text.specs.Said.{Lost}

abbrev pub or_nothing : Option (List ℕ) → List ℕ
or_nothing None = []
or_nothing (Some name) = name

-- the name of a router; nothing where there is none of this number
abbrev pub name_at : List (List ℕ) → ℕ → List ℕ
name_at names router = or_nothing (slice_get names router)

-- a lost delivery, where routers are named so by their numbers
abbrev pub named : List (List ℕ) → Loss → Lost
named names l = record { place = l.place; datagram = l.datagram; name = name_at names l.router }
