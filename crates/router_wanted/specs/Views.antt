-- Prefixes, neighbours and own LSPs as the model of the router has them.
use Rattle.std.specs.Prelude.{ℕ, ◌^◌, ◌<◌, ◌≤◌, length, All, List, [], ◌∷◌, Option, Some, None}
use Rattle.isis_base.specs.declared.prefix.Prefix.{Prefix}
use Rattle.isis_base.specs.Identifiers.{lsp_number, IsId}
use Rattle.std.specs.List.{AllByRecursion}
use Rattle.isis_tlv.specs.declared.neighbour.NeighbourItem.{NeighbourItem}
use Rattle.model_router.specs.Routers.{Contents}
use Rattle.lsp_fragments.specs.declared.content.Content.{Content}
use Rattle.lsp_fragments.specs.Entries.{node_and_metric}
use Rattle.isis_base.specs.Prefixes.{prefix_number}
use Rattle.router_wanted.specs.declared.wanted.Wanted.{Wanted}

-- a prefix with its metric: 64 times its address plus its length, and the metric (own)
abbrev pub prefix_pair : Prefix × ℕ → ℕ × ℕ
prefix_pair own = (prefix_number own.0, own.1)

-- what an own LSP says (ISO 10589 9.8)
abbrev pub contents_of : Wanted → Contents
contents_of w = record { flags = w.flags; tlvs = w.tlvs }

-- an own LSP that is wanted, by its LSP ID
abbrev pub wanted_of : Wanted → ℕ × Contents
wanted_of w = (lsp_number w.id, contents_of w)

-- the node and metric of a neighbour, where there is one
abbrev pub node_in : Option NeighbourItem → List (ℕ × ℕ)
node_in None = []
node_in (Some item) = node_and_metric item ∷ []

-- a neighbour of an LSP: a node ID of seven octets, a metric of three (RFC 5305 3)
pub record IsGoodItem (item : NeighbourItem) : Type 0 where
  pub id : IsId (record { node = item.node; number = 0 })
  pub metric : item.metric < 2 ^ 24

abbrev pub AreGood : List NeighbourItem → Type 0
AreGood items = AllByRecursion IsGoodItem items

-- what is asked of a content that is split: at most 3 areas, 64 addresses, and metrics of three
-- octets (RFC 5305 3)
pub record IsSplittable (content : Content) : Type 0 where
  pub areas : length content.areas.items ≤ 3
  pub addresses : length content.addresses.items ≤ 64
  pub metrics : All (λ item. item.metric < 2 ^ 24) content.neighbours.items
