-- The parts of own LSPs as they are computed: neighbours in order, and fragments with their numbers.
use Rattle.std.specs.Prelude.{◌≡◌, map, Bool, true, false, ◌&&◌, Option, Some, None, is_some, ℕ, ◌+◌, ◌*◌, ◌<◌, ◌≤◌, ◌==◌, length, slice_index_or, List, [], ◌∷◌, if◌then◌else◌}
use Rattle.std.specs.List.{insert}
use Rattle.isis_base.specs.declared.level.Level.{Level}
use Rattle.isis_base.specs.declared.level.Level.TheVariants as level
use Rattle.isis_tlv.specs.declared.prefix.PrefixItem.{PrefixItem}
use Rattle.model_router.specs.Maps.{find, put}
use Rattle.model_router.specs.LspPrefixes.{Reach, with_leaks}
use Rattle.model_router.specs.Both.{runs_of}
use Rattle.router_wanted.specs.declared.wants.Wants.{Wants}
use Rattle.model_router.specs.Adjacencies.{Neighbour}
use Rattle.model_router.specs.LspNeighbours.{put_node}
use Rattle.model_router.specs.Routers.{Contents}
use Rattle.isis_tlv.specs.declared.neighbour.NeighbourItem.{NeighbourItem}
use Rattle.lsp_fragments.specs.Entries.{node_and_metric, reach_pair}

-- nodes don't fall, from a least one on (own)
abbrev pub NotFalling : ℕ → List (ℕ × ℕ) → Type 0
NotFalling least [] = Unit {0}
NotFalling least (node ∷ nodes) = (least ≤ node.0) × NotFalling node.0 nodes

-- neighbours put to the nodes that are there, at metric 0 (ISO 10589 7.3.8, 7.3.10)
unfoldable pub put_ups : List (ℕ × ℕ) → List Neighbour → List (ℕ × ℕ)
put_ups nodes [] = nodes
put_ups nodes (n ∷ ns) = put_ups (put_node nodes (256 * n.system, 0)) ns

-- fragments of an LSP from a number on; number 0 has flags of its own (ISO 10589 7.3.4)
unfoldable pub counted : ℕ → ℕ → ℕ → ℕ → List (List ℕ) → List (ℕ × Contents)
counted first flags id number [] = []
counted first flags id number (tlvs ∷ fragments) =
    (id + number, record { flags = if number == 0 then first else flags; tlvs = tlvs })
    ∷ counted first flags id (number + 1) fragments

-- the place of a neighbour: behind those of no greater node (own)
pub record IsBehind (list : List NeighbourItem) (item : NeighbourItem) (place : ℕ) : Type 0 where
  pub inside : place ≤ length list
  pub before : (k : ℕ) (d : NeighbourItem) → k < place
      → (node_and_metric (slice_index_or list k d)).0 ≤ (node_and_metric item).0
  pub behind : (k : ℕ) (d : NeighbourItem) → place ≤ k → k < length list
      → (node_and_metric item).0 < (node_and_metric (slice_index_or list k d)).0

-- ---- prefixes

-- whether prefixes are leaked into a level (RFC 5302 3)
abbrev pub is_leaked_into : Wants → Level → Bool
is_leaked_into base level.One =
    (runs_of base.levels).one && (runs_of base.levels).two && base.leak
is_leaked_into base level.Two = (runs_of base.levels).one

-- whether they have the up/down bit then (RFC 5302 3)
abbrev pub is_down : Level → Bool
is_down level.One = true
is_down level.Two = false

-- prefixes with what is leaked, or without it (RFC 5302 3)
abbrev pub leaked_or : Bool → Bool → List (ℕ × Reach) → List (ℕ × ℕ) → List (ℕ × Reach)
leaked_or leaked down prefixes leaks =
    if leaked then with_leaks down prefixes leaks else prefixes

-- prefixes with one that is leaked, unless it is there (RFC 5302 3)
abbrev pub with_leak : List (ℕ × Reach) → ℕ × Reach → List (ℕ × Reach)
with_leak prefixes p =
    if is_some (find prefixes p.0) then prefixes else put prefixes p.0 p.1

-- a prefix is there, or it would go to a place between those before and behind it (own)
abbrev pub IsSpot : List PrefixItem → ℕ → Option ℕ → Type 0
IsSpot list n None = is_some (find (map reach_pair list) n) ≡ true
IsSpot list n (Some place) =
    (place ≤ length list) × (find (map reach_pair list) n ≡ None)
    × ((item : PrefixItem) → (reach_pair item).0 ≡ n
    → map reach_pair (insert list place item) ≡ put (map reach_pair list) n (reach_pair item).1)
