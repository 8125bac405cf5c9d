-- What some nodes of a level tell while entries of a sequence number PDU are taken, kept beside the level as it was before (own).
use Rattle.std.specs.Prelude.{◌≡◌, ℕ, ◌*◌, ◌/◌, ◌==◌, nat_lt, Bool, true, false, ◌&&◌, not, List, [], ◌∷◌, Option, Some, None, is_some, if◌then◌else◌}
use Rattle.std.specs.List.{AllByRecursion}
use Rattle.isis_base.specs.declared.entry.LspEntry.{LspEntry}
use Rattle.isis_base.specs.declared.identifiers.LspId.{LspId}
use Rattle.isis_base.specs.declared.identifiers.NodeId.{NodeId}
use Rattle.isis_base.specs.declared.level.Level.{Level}
use Rattle.isis_base.specs.Identifiers.{IsId, lsp_number}
use Rattle.isis_base.specs.Keys.{entry_rank, rank}
use Rattle.lsp_store.specs.declared.entry.Entry.{Entry}
use Rattle.lsp_store.specs.Databases as store
use Rattle.lsp_store.specs.Maps as maps
use Rattle.lsp_view.specs.Views.{number_of}
use Rattle.model_router.specs.declared.whose.Whose.{Whose}
use Rattle.model_router.specs.declared.whose.Whose.TheVariants as whose
use Rattle.model_router.specs.Books.{cell_at}
use Rattle.model_router.specs.Cells.{Cell}
use Rattle.model_router.specs.Deeds.{Content, content_of}
use Rattle.model_router.specs.LspTable.{differs}
use Rattle.model_router.specs.Maps.{find}
use Rattle.model_router.specs.Numbers.{lsp_id}
use Rattle.model_router.specs.Ranks.{is_live}
use Rattle.model_router.specs.Routers.{LevelState, Router, book_of, level_of}
use Rattle.model_router.specs.Sorted.{RisesFrom}
use Rattle.model_router.specs.Takes.{whose_of}
use Rattle.spf_tree.specs.Nodes.{node_number}
use Rattle.router_routes.specs.Moved.{is_among}
use Rattle.router_core.specs.Plans.{IsAbove}

-- ---- entries that change what is held

-- whether an entry is live, of the key that is held, and of another checksum (ISO 10589 7.3.16.2)
abbrev pub is_apart : Option Entry → LspEntry → Bool
is_apart None entry = false
is_apart (Some held) entry =
    is_live (entry_rank entry) && rank held.key == entry_rank entry
    && not (held.checksum == entry.checksum)

-- what is told of an LSP ID once such an entry is taken: an own LSP is issued above it, what else is held is purged (7.3.15.2,
-- 7.3.16.1, 7.3.16.2)
abbrev pub TellsAnswer : Whose → Router → Level → LspEntry → Entry → Type 0
TellsAnswer whose.Other r level entry e = e.key ≡ None
TellsAnswer whose.Issued r level entry e = IsAbove r level entry.id entry.number e
TellsAnswer whose.Unissued r level entry e = e.key ≡ None

abbrev pub IsAnswered : Router → Level → LspEntry → Entry → Type 0
IsAnswered r level entry e =
    TellsAnswer (whose_of r.config.system (level_of r level) (lsp_number entry.id)) r level entry e

-- ---- nodes, and their LSPs

-- nodes in order, with one more (own)
abbrev pub with_node : List NodeId → NodeId → List NodeId
with_node [] node = node ∷ []
with_node (first ∷ nodes) node =
    if node_number first == node_number node then first ∷ nodes
    else (if nat_lt (node_number node) (node_number first) then node ∷ first ∷ nodes
    else first ∷ with_node nodes node)

-- entries with all of these put in (own)
abbrev pub put_all : List (LspId × Entry) → List (LspId × Entry) → List (LspId × Entry)
put_all entries [] = entries
put_all entries (pair ∷ pairs) = put_all (maps.put entries pair.0 pair.1) pairs

-- entries with the LSPs of these nodes put in (own)
abbrev pub with_parts : List (LspId × Entry) → List (LspId × Entry) → List NodeId
    → List (LspId × Entry)
with_parts held entries [] = entries
with_parts held entries (node ∷ nodes) =
    with_parts held (put_all entries (maps.between (number_of node 0) (number_of node 255) held))
    nodes

-- the node of an LSP ID's number (own)
abbrev pub node_of : ℕ → ℕ
node_of n = 256 * (n / 256)

-- a node is one of those where an entry changes what a level holds (own)
abbrev pub IsCovered : Router → Level → List NodeId → LspEntry → Type 0
IsCovered r level nodes entry =
    differs (cell_at (book_of r level) (lsp_number entry.id)) (entry_rank entry) entry.checksum
    ≡ true → is_among nodes (node_number entry.id.node) ≡ true

-- nodes are of seven octets (own)
abbrev pub AreSeven : List NodeId → Type 0
AreSeven nodes = AllByRecursion (λ (node : NodeId). IsId (record { node = node; number = 0 })) nodes

-- ---- what is seen of a level

-- the rank and content of what is live (own)
abbrev pub seen : Option Cell → Option (ℕ × Content)
seen None = None
seen (Some cell) = if is_live cell.rank then Some (cell.rank, content_of cell) else None

abbrev pub content_in : Entry → Content
content_in e = record { checksum = e.checksum; flags = e.flags; octets = e.octets }

abbrev pub seen_in : Option Entry → Option (ℕ × Content)
seen_in None = None
seen_in (Some e) = if store.is_live e then Some (rank e.key, content_in e) else None

-- each number is an LSP ID's (own)
pub record IsNamed (n : ℕ) : Type 0 where
  pub again : lsp_number (lsp_id n) ≡ n
  pub node : node_number (lsp_id n).node ≡ node_of n

abbrev pub AreNamed : List (ℕ × Cell) → Type 0
AreNamed cells = AllByRecursion (λ (pair : ℕ × Cell). IsNamed pair.0) cells

-- a database shows what is live in a level (own)
pub record IsShown (r : Router) (level : Level) (entries : List (LspId × Entry)) : Type 0 where
  pub shows : (n : ℕ) → seen (cell_at (book_of r level) n) ≡ seen_in (maps.find entries n)
  pub named : AreNamed (book_of r level).cells
  pub sorted : RisesFrom 0 (book_of r level).cells
  pub rises : maps.RisesFrom 0 entries

-- a level holds what is aside of these nodes, and of others what it held in a router; an own LSP that is live is issued where it
-- was (own)
pub record IsHeldAside (r : Router) (level : Level) (nodes : List NodeId) (state : LevelState)
    (aside : List (LspId × Entry)) : Type 0 where
  pub sees : (n : ℕ) → seen (cell_at state.book n) ≡ (if is_among nodes (node_of n)
      then seen_in (maps.find aside n) else seen (cell_at (book_of r level) n))
  pub within : (n : ℕ) → is_among nodes (node_of n) ≡ false → maps.find aside n ≡ None
  pub own : (n : ℕ) → is_some (seen (cell_at state.book n)) ≡ true
      → is_some (find state.own n) ≡ is_some (find (level_of r level).own n)
  pub named : AreNamed state.book.cells
  pub sorted : RisesFrom 0 state.book.cells
