-- Candidates by prefix, in order of the prefixes' numbers. All of it own.
use Rattle.std.specs.Prelude.{◌≡◌, ◌↔◌, ℕ, ◌+◌, ◌≤◌, ◌==◌, ◌⊎◌, Bool, true, not, List, [], ◌∷◌, ◌++◌, filter, length, map, Option, Some, None, Vec, IfSome, MatchOption, if◌then◌else◌}
use Rattle.std.specs.List.{Contains, flat_map}
use Rattle.std.specs.declared.alloc.Global.{Global}
use Rattle.isis_base.specs.declared.prefix.Prefix.{Prefix}
use Rattle.isis_base.specs.Prefixes.{prefix_number}
use Rattle.model_router.specs.Maps.{find, set_at}
use Rattle.model_router.specs.Sorted.{RisesFrom}
use Rattle.ordered.specs.Keyed.{keyed, paired}
use Rattle.spf_tree.specs.Nodes.{node_number}
use Rattle.route_table.specs.declared.candidate.Candidate.{Candidate}
use Rattle.route_table.specs.Patches.{is_moved}
use Rattle.router_routes.specs.Candidates.{is_weighed}

-- ---- candidates by numbers

-- whether a candidate is by way of a node of these numbers, and whether it is for a prefix of these numbers
abbrev pub is_by : List ℕ → Candidate → Bool
is_by numbers c = is_moved numbers (node_number c.origin)

abbrev pub is_for : List ℕ → Candidate → Bool
is_for numbers c = is_moved numbers (prefix_number c.prefix)

abbrev pub prefix_of : Candidate → Prefix
prefix_of c = c.prefix

-- the prefixes of candidates by way of these nodes
abbrev pub prefixes_via : List ℕ → List Candidate → List Prefix
prefixes_via numbers candidates = map prefix_of (filter (is_by numbers) candidates)

-- ---- tables

-- a row's number, and its candidates
abbrev pub row_key : ℕ × Vec Candidate Global → ℕ
row_key row = row.0

abbrev pub row_ways : ℕ × Vec Candidate Global → List Candidate
row_ways row = row.1.items

abbrev pub rows_of : List (ℕ × Vec Candidate Global) → List (ℕ × List Candidate)
rows_of rows = paired row_key row_ways rows

-- a table's rows, and for how many it has room
pub record WaysOf : Type 0 where
  pub rows : List (ℕ × List Candidate)
  pub room : ℕ

abbrev pub ways_or : Option (List Candidate) → List Candidate
ways_or None = []
ways_or (Some ways) = ways

-- the candidates of a number, and of all
abbrev pub ways_in : List (ℕ × List Candidate) → ℕ → List Candidate
ways_in rows n = ways_or (find rows n)

abbrev pub all_in : List (ℕ × List Candidate) → List Candidate
all_in rows = flat_map (λ (row : ℕ × List Candidate). row.1) rows

-- the number of a candidate's prefix
abbrev pub number_of : Candidate → ℕ
number_of c = prefix_number c.prefix

-- a table has these candidates, each at the number of its prefix, and no others
abbrev pub AreWays : List (ℕ × List Candidate) → List Candidate → Type 0
AreWays rows list = (n : ℕ) (c : Candidate) → Contains (ways_in rows n) c ↔ (Contains list c × (number_of c ≡ n))

-- the numbers of candidates' prefixes are among these
abbrev pub AreAtNumbers : List Candidate → List ℕ → Type 0
AreAtNumbers candidates numbers = (c : Candidate) → Contains candidates c → is_moved numbers (number_of c) ≡ true

-- those of a number, ways by default where these may count
abbrev pub weighed_at : Bool → List (ℕ × List Candidate) → ℕ → List Candidate
weighed_at may rows n = filter (is_weighed may) (ways_in rows n)

-- ---- what goes

-- those of a number that aren't by way of nodes of these numbers, and beside it
abbrev pub kept_at : List ℕ → List (ℕ × List Candidate) → ℕ → List Candidate
kept_at moved rows n = filter (λ (c : Candidate). not (is_by moved c)) (ways_in rows n)

abbrev pub kept_pair : List ℕ → List (ℕ × List Candidate) → ℕ → ℕ × List Candidate
kept_pair moved rows n = (n, kept_at moved rows n)

-- ---- what comes

-- a candidate more at its prefix, where there is a row of it
abbrev pub add_if : Candidate → ℕ × List Candidate → ℕ × List Candidate
add_if c row = if row.0 == number_of c then (row.0, row.1 ++ c ∷ []) else row

abbrev pub add_at : List (ℕ × List Candidate) → Candidate → List (ℕ × List Candidate)
add_at rows c = map (add_if c) rows

abbrev pub add_each : List (ℕ × List Candidate) → List Candidate → List (ℕ × List Candidate)
add_each rows [] = rows
add_each rows (c ∷ more) = add_each (add_at rows c) more

-- each of some is among others, or among what is left
abbrev pub AreBut : List Candidate → List Candidate → List Candidate → Type 0
AreBut some others left = (c : Candidate) → Contains some c → Contains others c ⊎ Contains left c

-- two lists have the same members but for these of the one and those of the other
pub record AreApart (old new left right : List Candidate) : Type 0 where
  pub gone : AreBut old new left
  pub come : AreBut new old right

-- ---- rows put in

-- candidates, where there are some
abbrev pub some_ways : List Candidate → Option (List Candidate)
some_ways [] = None
some_ways (c ∷ ways) = Some (c ∷ ways)

-- a table once each of these rows stands in the place of what was there for its prefix; none stands there without candidates
abbrev pub put_all : List (ℕ × List Candidate) → List (ℕ × List Candidate) → List (ℕ × List Candidate)
put_all rows [] = rows
put_all rows (row ∷ more) = set_at (put_all rows more) row.0 (some_ways row.1)

-- rows that come, and for how many there is room where room is taken
pub record RowsOf : Type 0 where
  pub rows : List (ℕ × List Candidate)
  pub room : Option ℕ

-- the rows that come have room in the table as it is, or in the room that was taken for it
abbrev pub HaveRoom : WaysOf → RowsOf → Type 0
HaveRoom table after = MatchOption after.room
    (length table.rows + length after.rows ≤ table.room)
    (λ room. length table.rows + length after.rows ≤ room)

-- rows in order; the room, if any, has none yet
pub record AreRowsWithRoom (rows : List (ℕ × Vec Candidate Global)) (room : Option (Vec (ℕ × Vec Candidate Global) Global)) : Type 0 where
  pub rises : RisesFrom 0 (keyed row_key rows)
  pub empty : IfSome room (λ r. r.items ≡ [])
