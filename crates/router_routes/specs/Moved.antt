-- Some nodes tell other LSPs, or own prefixes are others, and nothing else of what routes look at moves. All of it own.
use Rattle.std.specs.Prelude.{◌≡◌, ℕ, ◌+◌, ◌==◌, ◌≤◌, nat_lt, Bool, true, false, not, List, [], ◌∷◌, ◌++◌, filter, Option, Some, None, MatchOption, if◌then◌else◌}
use Rattle.std.specs.List.{AllByRecursion, Contains, list_any}
use Rattle.isis_base.specs.declared.identifiers.NodeId.{NodeId}
use Rattle.isis_base.specs.declared.identifiers.LspId.{LspId}
use Rattle.isis_base.specs.declared.level.Level.{Level}
use Rattle.isis_base.specs.declared.level.Level.TheVariants as level
use Rattle.isis_base.specs.Identifiers.{IsId, lsp_number}
use Rattle.model_router.specs.Both.{at, runs_of}
use Rattle.lsp_store.specs.declared.entry.Entry.{Entry}
use Rattle.lsp_store.specs.Databases.{is_live}
use Rattle.lsp_store.specs.Maps.{RisesFrom, erase, put}
use Rattle.lsp_view.specs.Lsps.{entries_in}
use Rattle.lsp_view.specs.Views.{own_node, rows_in, overloaded_in}
use Rattle.spf_repair.specs.Changes.{RepairedOf}
use Rattle.spf_tree.specs.declared.row.Row.{Row}
use Rattle.spf_tree.specs.Graphs.{AreUsable, times}
use Rattle.spf_tree.specs.Nodes.{node_number}
use Rattle.router_routes.specs.declared.lent.Lent.{Lent}
use Rattle.router_routes.specs.declared.told.Moved.{Moved}
use Rattle.router_routes.specs.declared.told.Told.{Told}
use Rattle.router_routes.specs.declared.view.LevelView.{LevelView}
use Rattle.router_routes.specs.declared.view.View.{View}
use Rattle.router_routes.specs.Told.{told as told_as, told_in}
use Rattle.router_routes.specs.Counts.{Counts}
use Rattle.router_routes.specs.Outlooks.{Outlook, where_run}

-- what the LSPs of some nodes tell, by their numbers (own)
abbrev pub told_by_nodes : (ℕ → Bool) → List (LspId × Entry) → List (LspId × Entry)
told_by_nodes those told = filter (λ (pair : LspId × Entry). those (node_number pair.0.node)) told

-- what a node's LSPs tell, and what those of all others do (own)
abbrev pub told_at : NodeId → List (LspId × Entry) → List (LspId × Entry)
told_at node told = told_by_nodes (λ n. n == node_number node) told

abbrev pub told_beside : NodeId → List (LspId × Entry) → List (LspId × Entry)
told_beside node told = told_by_nodes (λ n. not (n == node_number node)) told

-- whether a node is one of some, and whether it is none of them (own)
abbrev pub is_among : List NodeId → ℕ → Bool
is_among nodes n = list_any (λ (node : NodeId). node_number node == n) nodes

abbrev pub is_beside : List NodeId → ℕ → Bool
is_beside nodes n = not (is_among nodes n)

-- each is a node, of seven octets (own)
abbrev pub AreNodes : List NodeId → Type 0
AreNodes nodes = (m : NodeId) → Contains nodes m → IsId (record { node = m; number = 0 })

-- nodes in order, each once (own)
abbrev pub NodesRise : ℕ → List NodeId → Type 0
NodesRise least [] = Unit {0}
NodesRise least (node ∷ nodes) = (least ≤ node_number node) × NodesRise (node_number node + 1) nodes

-- ---- what moves

-- these nodes of a level tell this, all others what they told, and all stands in order of LSP ID (own)
pub record AreMovedTo (nodes : List NodeId) (told old new : List (LspId × Entry)) : Type 0 where
  pub others : told_by_nodes (is_beside nodes) new ≡ told_by_nodes (is_beside nodes) old
  pub here : told_by_nodes (is_among nodes) new ≡ told
  pub rises : RisesFrom 0 new

-- a level that is run moves so, or a level stays (own)
abbrev pub IsMovedBy : Option Moved → Bool → List (LspId × Entry) → List (LspId × Entry) → Type 0
IsMovedBy None runs old new = new ≡ old
IsMovedBy (Some moved) runs old new =
    (runs ≡ true) × AreMovedTo moved.nodes.now (told_in (entries_in moved.aside)) old new

-- two outlooks differ in what these nodes of both levels tell and in own prefixes alone (own)
pub record AreMoved (old new : Outlook) (told : Told) : Type 0 where
  pub root : new.root ≡ old.root
  pub areas : new.areas ≡ old.areas
  pub runs : new.runs ≡ old.runs
  pub prefixes : MatchOption told.prefixes (new.prefixes ≡ old.prefixes)
      (λ prefixes. new.prefixes ≡ prefixes.now)
  pub one : IsMovedBy told.one old.runs.one old.told.one new.told.one
  pub two : IsMovedBy told.two old.runs.two old.told.two new.told.two

-- the other level (own)
abbrev pub beside : Level → Level
beside level.One = level.Two
beside level.Two = level.One

-- two outlooks differ in what one node tells in one level alone, which is one that is run; there it
-- tells this, and all stands in order of LSP ID (own)
pub record IsMovedAt (old new : Outlook) (level : Level) (node : NodeId)
    (told : List (LspId × Entry)) : Type 0 where
  pub root : new.root ≡ old.root
  pub areas : new.areas ≡ old.areas
  pub runs : new.runs ≡ old.runs
  pub prefixes : new.prefixes ≡ old.prefixes
  pub run : at old.runs level ≡ true
  pub other : at new.told (beside level) ≡ at old.told (beside level)
  pub others : told_beside node (at new.told level) ≡ told_beside node (at old.told level)
  pub here : told_at node (at new.told level) ≡ told
  pub rises : RisesFrom 0 (at new.told level)

-- what is told where an entry takes the place of what is held of an LSP ID: what it tells where it is live, and else nothing (own)
abbrev pub told_put : List (LspId × Entry) → LspId → Entry → List (LspId × Entry)
told_put told id entry =
    if is_live entry then put told id (told_as entry.flags entry.octets)
    else erase told (lsp_number id)

-- two outlooks differ in what one LSP ID tells in one level alone, which is one that is run: there it tells this entry (own)
pub record IsPutAt (old new : Outlook) (level : Level) (id : LspId) (entry : Entry) : Type 0 where
  pub root : new.root ≡ old.root
  pub areas : new.areas ≡ old.areas
  pub runs : new.runs ≡ old.runs
  pub prefixes : new.prefixes ≡ old.prefixes
  pub run : at old.runs level ≡ true
  pub other : at new.told (beside level) ≡ at old.told (beside level)
  pub here : at new.told level ≡ told_put (at old.told level) id entry

-- ---- the same as a list

-- what the nodes before a node tell, and those past it (own)
abbrev pub told_before : NodeId → List (LspId × Entry) → List (LspId × Entry)
told_before node told = told_by_nodes (λ n. nat_lt n (node_number node)) told

abbrev pub told_past : NodeId → List (LspId × Entry) → List (LspId × Entry)
told_past node told = told_by_nodes (λ n. nat_lt (node_number node) n) told

-- what is told where a node tells what others have of it (own)
unfoldable pub told_with : NodeId → List (LspId × Entry) → List (LspId × Entry) → List (LspId × Entry)
told_with node old here = told_before node old ++ (told_at node here ++ told_past node old)

-- and where some nodes do, one after another (own)
abbrev pub told_after : List NodeId → List (LspId × Entry) → List (LspId × Entry) → List (LspId × Entry)
told_after [] old here = old
told_after (node ∷ nodes) old here = told_with node (told_after nodes old here) here

-- what a level tells as it is read (own)
abbrev pub told_moved : List (LspId × Entry) → Option Moved → List (LspId × Entry)
told_moved told None = told
told_moved told (Some moved) = told_after moved.nodes.now told (told_in (entries_in moved.aside))

abbrev pub told_of : LevelView → List (LspId × Entry)
told_of level = told_moved (told_in level.store.now.entries) level.moved

-- the LSP IDs have eight octets (own)
abbrev pub HaveIds : List (LspId × Entry) → Type 0
HaveIds entries = AllByRecursion (λ (pair : LspId × Entry). IsId pair.0) entries

-- a database has LSP IDs of eight octets in order, and nodes are of seven (own)
pub record IsAside (moved : Moved) : Type 0 where
  pub ids : HaveIds (entries_in moved.aside)
  pub rises : RisesFrom 0 (entries_in moved.aside)
  pub nodes : AreNodes moved.nodes.now

-- what is told stands in order, with LSP IDs of eight octets (own)
pub record IsListing (told : List (LspId × Entry)) : Type 0 where
  pub ids : HaveIds told
  pub rises : RisesFrom 0 told

-- where nodes are read elsewhere, both databases have such LSP IDs, and the nodes stand in order, each once (own)
pub record IsReadable (entries : List (LspId × Entry)) (moved : Moved) : Type 0 where
  pub ids : HaveIds entries
  pub rises : RisesFrom 0 entries
  pub aside : IsAside moved
  pub each : NodesRise 0 moved.nodes.now

abbrev pub FitMoved : List (LspId × Entry) → Option Moved → Type 0
FitMoved entries None = Unit {0}
FitMoved entries (Some moved) = IsReadable entries moved

abbrev pub IsFit : LevelView → Type 0
IsFit level = FitMoved level.store.now.entries level.moved

pub record AreFit (view : View) : Type 0 where
  pub one : IsFit view.one
  pub two : IsFit view.two

-- what routes look at as it is read (own)
unfoldable pub outlook_at : View → Outlook
outlook_at view = record {
  root = own_node view.system;
  areas = view.areas.now;
  runs = runs_of view.levels;
  prefixes = view.prefixes.now;
  told = record {
    one = where_run (runs_of view.levels).one (told_of view.one);
    two = where_run (runs_of view.levels).two (told_of view.two);
  };
}

-- a view is of what is lent, where this is told (own)
pub record AreViewed (lent : Lent) (told : Told) (view : View) : Type 0 where
  pub system : view.system ≡ lent.system
  pub areas : view.areas.now ≡ lent.areas.now
  pub levels : view.levels ≡ lent.levels
  pub prefixes : MatchOption told.prefixes (view.prefixes.now ≡ lent.prefixes.now)
      (λ prefixes. view.prefixes.now ≡ prefixes.now)
  pub one : view.one ≡ record { store = lent.one; moved = told.one }
  pub two : view.two ≡ record { store = lent.two; moved = told.two }

-- the nodes that tell other things in a level, and in either (own)
abbrev pub nodes_in : Option Moved → List NodeId
nodes_in None = []
nodes_in (Some moved) = moved.nodes.now

abbrev pub nodes_of : Told → List NodeId
nodes_of told = nodes_in told.one ++ nodes_in told.two

-- of some nodes in order, each once (own)
abbrev pub IsInOrder : Option Moved → Type 0
IsInOrder None = Unit {0}
IsInOrder (Some moved) = NodesRise 0 moved.nodes.now

-- a test of the nodes of a list, or of those that are none of it (own)
abbrev pub is_one : Bool → List NodeId → ℕ → Bool
is_one true nodes = is_among nodes
is_one false nodes = is_beside nodes

-- costs are from a root over what is told (own)
pub record AreCosts (told : List (LspId × Entry)) (from : NodeId) (repaired : RepairedOf) : Type 0 where
  pub root : repaired.root ≡ from
  pub graph : AreUsable (rows_in told) (overloaded_in told) from repaired.graph

-- the new costs, or else the old ones
abbrev pub or_old : Option RepairedOf → RepairedOf → RepairedOf
or_old None old = old
or_old (Some new) old = new

-- the rows that are told make the new rows of the old ones, and the costs had one change where rows are others (own)
pub record IsOneChange (old new : RepairedOf) : Type 0 where
  pub counts : Counts old new
  pub graph_root : new.graph.root ≡ old.graph.root
  pub root : new.root ≡ old.root

-- the same where costs are new (own)
abbrev pub AreRowsMoved : RepairedOf → Option RepairedOf → Type 0
AreRowsMoved old None = Unit {0}
AreRowsMoved old (Some new) = IsOneChange old new

-- costs with rows taken out and rows put in (own)
pub record AreChanged (old new : RepairedOf) (removed added : List Row) : Type 0 where
  pub rows : (row : Row) → times new.graph.rows row + times removed row
      ≡ times old.graph.rows row + times added row
  pub graph_root : new.graph.root ≡ old.graph.root
  pub root : new.root ≡ old.root
