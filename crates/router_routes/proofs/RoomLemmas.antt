-- Costs of systems that are reached leave room for a metric.
use Rattle.std.proofs.Common.{◌≡◌, ◌∙◌, ◌==◌, ◌&&◌, ℕ, ◌≤◌, Bool, not, true, false, if◌then◌else◌, List, [], ◌∷◌, Option, None, Some, refl, sym, subst, inl, inr}
use Rattle.std.specs.List.{Contains, flat_map}
use Rattle.isis_base.specs.declared.identifiers.SystemId.{SystemId}
use Rattle.isis_base.specs.declared.identifiers.NodeId.{NodeId}
use Rattle.isis_base.specs.declared.identifiers.LspId.{LspId}
use Rattle.lsp_store.specs.declared.entry.Entry.{Entry}
use Rattle.spf_tree.specs.Nodes.{node_number}
use Rattle.spf_tree.specs.Distances.{AreSmall, cost_at}
use Rattle.spf_tree.proofs.SearchLemmas.{contains_cases, contains_first, contains_none, contains_rest}
use Rattle.router_routes.specs.Candidates.{LeaveRoom, leads_other, reached_by, with_cost}
use Rattle.router_routes.specs.Kept.{AreSame, system_at, systems_among}
use Rattle.router_routes.proofs.KeptLemmas.{flat-in}

abbrev Reached : Type 0
Reached = SystemId × ℕ

abbrev HasRoom : Reached → Type 0
HasRoom s = s.1 ≤ 18446744065119617025

room-all : (systems : List Reached) → ((s : Reached) → Contains systems s → HasRoom s) → LeaveRoom systems
room-all [] each = tt
room-all (first ∷ more) each = (each first (contains_first first more), room-all more (λ s there. each s (contains_rest first s more there)))

room-at : (system : SystemId) (found : Option ℕ) → ((cost : ℕ) → found ≡ Some cost → cost ≤ 18446744065119617025) → (s : Reached) → Contains (with_cost system found) s → HasRoom s
room-at system None small s there = absurd (contains_none s there)
room-at system (Some cost) small s there =
    let x : Reached = (system, cost) in
    elim (contains_cases x s [] there) [
      | inl is ↦ subst HasRoom is (small cost refl)
      | inr none ↦ absurd (contains_none s none)
    ]

room-if : (b : Bool) (system : SystemId) (found : Option ℕ) → ((cost : ℕ) → found ≡ Some cost → cost ≤ 18446744065119617025) → (s : Reached) → Contains (if b then with_cost system found else []) s → HasRoom s
room-if true system found small s there = room-at system found small s there
room-if false system found small s there = absurd (contains_none s there)

-- systems at costs that are small
pub reached-room : (costs : List (ℕ × ℕ)) (root : ℕ) (told : List (LspId × Entry)) (systems : List Reached) → AreSmall costs → AreSame systems (flat_map (reached_by (cost_at costs) root) told) → LeaveRoom systems
reached-room costs root told systems small same = room-all systems (λ s there.
    let o = flat-in (reached_by (cost_at costs) root) told s ((same s).0 there) in
    room-if (leads_other root o.0.0) o.0.0.node.system (cost_at costs (node_number o.0.0.node)) (small.each (node_number o.0.0.node)) s o.2)

-- the same of nodes, as they are lent
pub among-room : (distances : List (ℕ × ℕ)) (root : ℕ) (nodes : List NodeId) (systems lent : List Reached) → AreSmall distances → systems ≡ systems_among (cost_at distances) root nodes → lent ≡ systems → LeaveRoom lent
among-room distances root nodes systems lent small is same =
    subst LeaveRoom (sym (same ∙ is)) (room-all (systems_among (cost_at distances) root nodes) (λ s there.
    let o = flat-in (system_at (cost_at distances) root) nodes s there in
    room-if (o.0.pseudonode == 0 && not (node_number o.0 == root)) o.0.system (cost_at distances (node_number o.0)) (small.each (node_number o.0)) s o.2))
