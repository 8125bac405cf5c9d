-- What candidates stay where some nodes moved, and what those nodes tell. All of it own.
use Rattle.std.specs.Prelude.{◌≡◌, ◌↔◌, ℕ, ◌==◌, Bool, true, false, ◌&&◌, not, List, [], ◌++◌, Option, Some, if◌then◌else◌}
use Rattle.std.specs.List.{Contains, flat_map}
use Rattle.isis_base.specs.declared.identifiers.SystemId.{SystemId}
use Rattle.isis_base.specs.declared.identifiers.NodeId.{NodeId}
use Rattle.isis_base.specs.declared.identifiers.LspId.{LspId}
use Rattle.isis_base.specs.declared.level.Level.TheVariants as level
use Rattle.isis_base.specs.Identifiers.{IsId}
use Rattle.lsp_store.specs.declared.entry.Entry.{Entry}
use Rattle.lsp_view.specs.Views.{own_node, lead_of, reach_in}
use Rattle.spf_tree.specs.Nodes.{node_number}
use Rattle.spf_tree.specs.Distances.{cost_at}
use Rattle.spf_repair.specs.Changes.{RepairedOf}
use Rattle.route_table.specs.declared.candidate.Candidate.{Candidate}
use Rattle.router_routes.specs.Moved.{HaveIds, is_among, is_beside, told_by_nodes}
use Rattle.router_routes.specs.Outlooks.{Outlook}
use Rattle.router_routes.specs.Candidates.{with_cost, system_ways, ways_of, attached_of}

-- two lists have the same members
abbrev pub AreSame : {X : Type 0} → List X → List X → Type 0
AreSame {X} xs ys = (x : X) → Contains xs x ↔ Contains ys x

-- whether a candidate is by way of another node
abbrev pub stays : List NodeId → Candidate → Bool
stays nodes c = is_beside nodes (node_number c.origin)

-- the system that a node is, with its cost, where it is one beside the root that has a cost
abbrev pub system_at : (ℕ → Option ℕ) → ℕ → NodeId → List (SystemId × ℕ)
system_at costs root node =
    if node.pseudonode == 0 && not (node_number node == root)
    then with_cost node.system (costs (node_number node)) else []

-- those of some nodes
abbrev pub systems_among : (ℕ → Option ℕ) → ℕ → List NodeId → List (SystemId × ℕ)
systems_among costs root nodes = flat_map (system_at costs root) nodes

-- what nodes tell in both levels at these costs
abbrev pub ways_by : Outlook → RepairedOf → RepairedOf → List NodeId → List Candidate
ways_by o one two nodes =
    flat_map (system_ways level.One o.told.one)
    (systems_among (cost_at one.distances) (node_number one.graph.root) nodes)
    ++ flat_map (system_ways level.Two o.told.two)
    (systems_among (cost_at two.distances) (node_number two.graph.root) nodes)

-- these are what both levels tell, and whether the router is attached
pub record AreReached (o : Outlook) (list : List Candidate) (bit : Bool) : Type 0 where
  pub told : AreSame list (ways_of o)
  pub attached : bit ≡ attached_of o

-- all nodes but some tell the same in both levels, and else own prefixes alone may move
pub record AreBeside (nodes : List NodeId) (old new : Outlook) : Type 0 where
  pub root : new.root ≡ old.root
  pub areas : new.areas ≡ old.areas
  pub runs : new.runs ≡ old.runs
  pub one : told_by_nodes (is_beside nodes) old.told.one ≡ told_by_nodes (is_beside nodes) new.told.one
  pub two : told_by_nodes (is_beside nodes) old.told.two ≡ told_by_nodes (is_beside nodes) new.told.two

-- all nodes but some cost the same
abbrev pub CostBeside : List NodeId → List (ℕ × ℕ) → List (ℕ × ℕ) → Type 0
CostBeside nodes old new = (m : NodeId) → IsId (record { node = m; number = 0 })
    → is_among nodes (node_number m) ≡ false
    → cost_at old (node_number m) ≡ cost_at new (node_number m)

-- what a system tells, by its LSPs alone and in its own name
pub record IsTelling (f : List (LspId × Entry) → SystemId × ℕ → List Candidate) : Type 0 where
  pub origin : (told : List (LspId × Entry)) (s : SystemId × ℕ) (c : Candidate)
      → Contains (f told s) c → c.origin ≡ own_node s.0
  pub lead : (told : List (LspId × Entry)) (s : SystemId × ℕ) (c : Candidate)
      → Contains (f told s) c → (e : Entry) × (lead_of told (own_node s.0) ≡ Some e)
  pub same : (told later : List (LspId × Entry)) (s : SystemId × ℕ)
      → lead_of told (own_node s.0) ≡ lead_of later (own_node s.0)
      → reach_in told s.0 ≡ reach_in later s.0 → f told s ≡ f later s

-- the LSP IDs of what is told have eight octets
pub record HaveToldIds (o : Outlook) : Type 0 where
  pub one : HaveIds o.told.one
  pub two : HaveIds o.told.two

-- those of some nodes are among those of others
abbrev pub AreAmong : List NodeId → List NodeId → Type 0
AreAmong some all = (n : ℕ) → is_among some n ≡ true → is_among all n ≡ true
