use Rattle.std.proofs.Common.{◌≡◌, ℕ, true, List, length}
use Rattle.std.specs.List.{AllByRecursion}
use Rattle.isis_base.specs.declared.entry.LspEntry.{LspEntry}
use Rattle.isis_base.specs.declared.identifiers.NodeId.{NodeId}
use Rattle.isis_base.specs.Identifiers.{lsp_number}
use Rattle.lsp_store.specs.Maps.{find}
use Rattle.spf_tree.specs.Nodes.{node_number}
use Rattle.router_routes.specs.Moved.{NodesRise, is_among}
use Rattle.router_core.specs.Asides.{AreSeven, is_apart}
use Rattle.router_core.proofs.snp_told.nodes_apart.Given as goal

-- where these nodes, and more, have those of the entries that are left, they have those of all
abbrev pub invariant-loop-left : goal.invariant-loop-left
invariant-loop-left l = record {
  rises : NodesRise 0 l.nodes.items;
  ids : AreSeven l.nodes.items;
  covered : (more : List NodeId) → ((n : ℕ) → is_among l.nodes.items n ≡ true → is_among more n ≡ true)
      → AllByRecursion (λ (e : LspEntry). is_apart (find l.fn.store.entries (lsp_number e.id)) e ≡ true → is_among more (node_number e.id.node) ≡ true) l.left
      → AllByRecursion (λ (e : LspEntry). is_apart (find l.fn.store.entries (lsp_number e.id)) e ≡ true → is_among more (node_number e.id.node) ≡ true) l.fn.entries;
}

abbrev pub decreases-loop-left : goal.decreases-loop-left
decreases-loop-left l = length l.left
