-- Systems that are none of those that are known. All of it own.
use Rattle.std.specs.Prelude.{◌≤◌, ℕ, List, map, Option, Some, None}
use Rattle.std.specs.List.{Contains}
use Rattle.isis_base.specs.declared.identifiers.SystemId.{SystemId}
use Rattle.isis_base.specs.declared.identifiers.LspId.{LspId}
use Rattle.model_router.specs.Routers.{Router}
use Rattle.lsp_store.specs.declared.entry.Entry.{Entry}
use Rattle.spf_tree.specs.Nodes.{node_number, system_node}
use Rattle.router_routes.specs.Outlooks.{outlook_of}

-- a router's node, and the systems of the live LSPs of level 1 that it holds
abbrev pub node_of : Router → ℕ
node_of r = node_number (outlook_of r).root

abbrev pub systems_in : List (LspId × Entry) → List SystemId
systems_in pairs = map (λ (pair : LspId × Entry). pair.0.node.system) pairs

abbrev pub systems_told : Router → List SystemId
systems_told r = systems_in (outlook_of r).told.one

-- one of the systems isn't known
abbrev pub IsForeign : List ℕ → List SystemId → SystemId → Type 0
IsForeign known systems system =
    Contains systems system × (Contains known (system_node system) → ⊥)

-- the least of those that aren't known, if there is one
abbrev pub IsLeastForeign : List ℕ → List SystemId → Option SystemId → Type 0
IsLeastForeign known systems None =
    (system : SystemId) → Contains systems system → Contains known (system_node system)
IsLeastForeign known systems (Some least) =
    IsForeign known systems least
    × ((system : SystemId) → IsForeign known systems system
    → system_node least ≤ system_node system)
