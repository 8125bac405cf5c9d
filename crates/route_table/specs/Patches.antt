-- Routes of which some prefixes are looked at anew. All of it own.

use Rattle.std.specs.Prelude.{◌≡◌, ℕ, ◌==◌, ◌+◌, ◌*◌, ◌/◌, ◌≤◌, ◌<◌, ◌-◌, nat_le, if◌then◌else◌, ◌⊎◌, ◌↔◌, Bool, true, false}
use Rattle.std.specs.Prelude.{List, [], length, slice_index_or, Option, Some, None, IfSome, Vec}
use Rattle.std.specs.declared.alloc.Global.{Global}
use Rattle.std.specs.List.{Contains, list_any, sum_by}
use Rattle.std.specs.Option.{MatchOption}
use Rattle.spf_tree.specs.Nodes.{node_number}
use Rattle.route_table.specs.declared.candidate.Candidate.{Candidate}
use Rattle.route_table.specs.declared.route.Route.{Route}
use Rattle.route_table.specs.Ranks.{prefix_number}
use Rattle.route_table.specs.Routes.{IsRoute, AreRising}
use Rattle.route_table.specs.declared.patch.Patch.{Patch}
use Rattle.isis_base.specs.declared.prefix.Prefix.{Prefix}

-- whether a prefix has a patch
abbrev pub is_touched : List Patch → ℕ → Bool
is_touched patches n = list_any (λ (p : Patch). prefix_number p.prefix == n) patches

-- a patch has the route
abbrev pub Brings : List Patch → Route → Type 0
Brings patches route = (p : Patch) × Contains patches p × (p.route ≡ Some route)

-- patches rise by prefix, and each route is for its patch's prefix
pub record AreInTurn (patches : List Patch) : Type 0 where
  pub below : (i j : ℕ) (d : Patch) → i < j → j < length patches
      → prefix_number (slice_index_or patches i d).prefix < prefix_number
      (slice_index_or patches j d).prefix
  pub own : (p : Patch) (r : Route) → Contains patches p → p.route ≡ Some r
      → prefix_number r.prefix ≡ prefix_number p.prefix

-- patches, with how many routes there is room for where room is taken
pub record PatchesOf : Type 0 where
  pub list : List Patch
  pub room : Option ℕ

-- whether a prefix has a route
abbrev pub is_routed : List Route → ℕ → Bool
is_routed routes n = list_any (λ (r : Route). prefix_number r.prefix == n) routes

-- how many routes more there are where a prefix gets this one
abbrev pub more_by : List Route → ℕ → Option Route → ℕ
more_by routes n None = 0
more_by routes n (Some route) = if is_routed routes n then 0 else 1

-- how many routes come by patches, those that go left aside
abbrev pub coming : List Route → List Patch → ℕ
coming routes patches =
    sum_by (λ (p : Patch). more_by routes (prefix_number p.prefix) p.route) patches

-- how many routes a table of so many has room for: in steps of 64 up to 4,096, and of 1,024 from there on
abbrev pub room_of : ℕ → ℕ
room_of many = if nat_le many 4096 then (many + 63) / 64 * 64 else (many + 1023) / 1024 * 1024

-- the routes that come have room in the table as it is, or in the room that was taken for it
abbrev pub Fits : List Route → PatchesOf → Type 0
Fits routes patches = MatchOption patches.room
    (length routes + coming routes patches.list ≤ room_of (length routes))
    (λ room. room_of (length routes + coming routes patches.list) ≤ room)

-- no room is taken where the table has it
abbrev pub TakesNoMore : List Route → PatchesOf → Type 0
TakesNoMore routes patches =
    length routes + coming routes patches.list ≤ room_of (length routes) → patches.room ≡ None

-- a table's routes, with room for so many
pub record HaveRoom (routes : List Route) (room : ℕ) : Type 0 where
  pub rising : AreRising routes
  pub enough : room_of (length routes) ≤ room

-- the room, if any, has no routes yet
pub record ArePatchesWithRoom (list : List Patch) (room : Option (Vec Route Global)) : Type 0 where
  pub turn : AreInTurn list
  pub empty : IfSome room (λ r. r.items ≡ [])

-- the routes of the patches, and the old ones for other prefixes, in order
pub record IsPatched (old : List Route) (patches : List Patch) (routes : List Route) : Type 0 where
  pub rising : AreRising routes
  pub each : (r : Route) → Contains routes r
      → Brings patches r ⊎ (Contains old r × (is_touched patches (prefix_number r.prefix) ≡ false))
  pub brought : (r : Route) → Brings patches r → Contains routes r
  pub kept : (r : Route) → Contains old r → is_touched patches (prefix_number r.prefix) ≡ false
      → Contains routes r

-- ---- when patches are right

-- each patch's route is the best way of these candidates, and where one is for its prefix it has a route
pub record ArePatches (HopTo : Candidate → ℕ → Type 0) (candidates : List Candidate)
    (patches : List Patch) : Type 0 where
  pub each : (p : Patch) (r : Route) → Contains patches p → p.route ≡ Some r
      → IsRoute HopTo candidates r × (prefix_number r.prefix ≡ prefix_number p.prefix)
  pub all : (p : Patch) (c : Candidate) → Contains patches p → Contains candidates c
      → prefix_number c.prefix ≡ prefix_number p.prefix → (r : Route) × (p.route ≡ Some r)

-- a patch for a prefix: the best way of these candidates, or none where none is for it
pub record IsPatchOf (HopTo : Candidate → ℕ → Type 0) (candidates : List Candidate)
    (of : Prefix) (patch : Patch) : Type 0 where
  pub prefix : patch.prefix ≡ of
  pub some : (r : Route) → patch.route ≡ Some r
      → IsRoute HopTo candidates r × (prefix_number r.prefix ≡ prefix_number of)
  pub none : patch.route ≡ None → (c : Candidate) → Contains candidates c
      → prefix_number c.prefix ≡ prefix_number of → ⊥

-- one of the prefixes has this number
abbrev pub IsListed : List Prefix → ℕ → Type 0
IsListed prefixes n = (p : Prefix) × Contains prefixes p × (prefix_number p ≡ n)

-- prefixes in order, of which some may be there again
pub record ArePrefixesInOrder (prefixes : List Prefix) : Type 0 where
  pub order : (i j : ℕ) (d : Prefix) → i < j → j < length prefixes
      → prefix_number (slice_index_or prefixes i d) ≤ prefix_number (slice_index_or prefixes j d)

-- the prefix at a place is the one before it
abbrev pub IsAgain : List Prefix → ℕ → Type 0
IsAgain prefixes place = (0 < place) × ((d : Prefix)
    → prefix_number (slice_index_or prefixes place d)
    ≡ prefix_number (slice_index_or prefixes (place - 1) d))

-- a patch for each of the first so many prefixes, in order
pub record HavePatches (HopTo : Candidate → ℕ → Type 0) (candidates : List Candidate)
    (prefixes : List Prefix) (patches : List Patch) (many : ℕ) : Type 0 where
  pub turn : AreInTurn patches
  pub each : (p : Patch) → Contains patches p → IsPatchOf HopTo candidates p.prefix p
  pub from : (p : Patch) → Contains patches p → (k : ℕ) × (k < many)
      × ((d : Prefix) → prefix_number (slice_index_or prefixes k d) ≡ prefix_number p.prefix)
  pub all : (k : ℕ) (d : Prefix) → k < many
      → is_touched patches (prefix_number (slice_index_or prefixes k d)) ≡ true

-- these are some of the candidates, with all that are for prefixes of patches
pub record IsPart (all part : List Candidate) (patches : List Patch) : Type 0 where
  pub some : (c : Candidate) → Contains part c → Contains all c
  pub whole : (c : Candidate) → Contains all c
      → is_touched patches (prefix_number c.prefix) ≡ true → Contains part c

-- candidates for prefixes without a patch stay, with their hops
pub record AreClean (HopTo HopBy : Candidate → ℕ → Type 0) (old new : List Candidate)
    (patches : List Patch) : Type 0 where
  pub out : (c : Candidate) → is_touched patches (prefix_number c.prefix) ≡ false → Contains old c
      → Contains new c
  pub into : (c : Candidate) → is_touched patches (prefix_number c.prefix) ≡ false → Contains new c
      → Contains old c
  pub hops : (c : Candidate) (hop : ℕ) → is_touched patches (prefix_number c.prefix) ≡ false
      → Contains new c → HopTo c hop ↔ HopBy c hop

-- whether a node is one of those that moved
abbrev pub is_moved : List ℕ → ℕ → Bool
is_moved moved node = list_any (λ (n : ℕ). n == node) moved

-- candidates by way of other nodes stay, with their hops, and each prefix that the moved nodes told or tell has a patch
pub record AreMoved (HopTo HopBy : Candidate → ℕ → Type 0) (old new : List Candidate)
    (moved : List ℕ) (patches : List Patch) : Type 0 where
  pub out : (c : Candidate) → is_moved moved (node_number c.origin) ≡ false → Contains old c
      → Contains new c
  pub into : (c : Candidate) → is_moved moved (node_number c.origin) ≡ false → Contains new c
      → Contains old c
  pub hops : (c : Candidate) (hop : ℕ) → is_moved moved (node_number c.origin) ≡ false
      → HopTo c hop ↔ HopBy c hop
  pub before : (c : Candidate) → Contains old c → is_moved moved (node_number c.origin) ≡ true
      → is_touched patches (prefix_number c.prefix) ≡ true
  pub after : (c : Candidate) → Contains new c → is_moved moved (node_number c.origin) ≡ true
      → is_touched patches (prefix_number c.prefix) ≡ true
