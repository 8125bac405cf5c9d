-- Live LSPs of a node that list a neighbour at metric 0 (own).
use Rattle.std.specs.Prelude.{ℕ, ◌==◌, ◌&&◌, Bool, List}
use Rattle.std.specs.List.{list_any}
use Rattle.isis_base.specs.declared.identifiers.LspId.{LspId}
use Rattle.isis_tlv.specs.declared.neighbour.NeighbourItem.{NeighbourItem}
use Rattle.lsp_store.specs.declared.entry.Entry.{Entry}
use Rattle.lsp_view.specs.Bodies.{neighbours_in}
use Rattle.spf_tree.specs.Nodes.{node_number}

abbrev pub has_zero : List NeighbourItem → Bool
has_zero items = list_any (λ (item : NeighbourItem). item.metric == 0) items

-- of one LSP
abbrev pub lists_zero : ℕ → LspId × Entry → Bool
lists_zero node pair =
    node_number pair.0.node == node && has_zero (neighbours_in pair.1.octets)
