-- Live LSPs of systems that are none of the routers.
use Rattle.std.proofs.Common.{◌≡◌, ◌<◌, ℕ, List, [], ◌∷◌, ◌++◌, map, Option, Some, None, refl, sym, ap, ◌∙◌, subst, arith}
use Rattle.std.specs.Prelude.{MatchOption}
use Rattle.std.specs.List.{Contains, AllByRecursion, flat_map}
use Rattle.isis_base.specs.declared.identifiers.SystemId.{SystemId}
use Rattle.isis_base.specs.declared.identifiers.NodeId.{NodeId}
use Rattle.isis_base.specs.declared.identifiers.LspId.{LspId}
use Rattle.isis_base.specs.Identifiers.{IsId}
use Rattle.model_router.specs.Routers.{Router}
use Rattle.lsp_store.specs.declared.entry.Entry.{Entry}
use Rattle.lsp_store.specs.Databases.{live_of}
use Rattle.lsp_view.specs.Views.{own_node}
use Rattle.spf_tree.specs.Nodes.{node_number, system_node}
use Rattle.router_routes.specs.Told.{told_pair, told_in}
use Rattle.router_routes.specs.Outlooks.{outlook_of}
use Rattle.forward_views.specs.Looks.{Look, outlook, told_of, AreKnown}
use Rattle.forward_views.proofs.ListLemmas.{in_map, of_map, in_flat_map, of_flat_map}
use Rattle.forward_views.proofs.NodeLemmas.{zero_of, node-one}
use Rattle.forward_views.proofs.LookLemmas.{told-id, root-id, root-own}
use Rattle.walk_text.specs.Foreign.{node_of, systems_in, systems_told, IsLeastForeign}
use Rattle.walk_text.specs.Tests.{AreLooks, IsStranger, IsLeastStranger}

-- ---- what is told of systems

same-systems : (pairs : List (LspId × Entry)) → systems_in (map told_pair pairs) ≡ systems_in pairs
same-systems [] = refl
same-systems (pair ∷ pairs) = ap (λ (l : List SystemId). pair.0.node.system ∷ l) (same-systems pairs)

pub told-systems : (r : Router) (entries : List (LspId × Entry)) → (outlook_of r).told.one ≡ told_in entries → systems_told r ≡ systems_in (live_of entries)
told-systems r entries e = ap systems_in e ∙ same-systems (live_of entries)

-- ---- a system's own node

own-small : (xs : List ℕ) (p n : ℕ) → AllByRecursion (λ o. o < 256) ((xs ++ (p ∷ [])) ++ (n ∷ [])) → AllByRecursion (λ o. o < 256) ((xs ++ (0 ∷ [])) ++ (0 ∷ []))
own-small [] p n all = (omega arith, (omega arith, tt))
own-small (x ∷ xs) p n all = (all.0, own-small xs p n all.1)

own-of-id : (id : LspId) → IsId id → IsId (zero_of (own_node id.node.system))
own-of-id id is = record { six = is.six; small = own-small id.node.system.0 id.node.pseudonode id.number is.small }

abbrev system-of : NodeId → SystemId
system-of node = node.system

-- the router of a node
one-system : (look other : Look) (pair : LspId × Entry) → Contains (told_of look) pair → node_of other.router ≡ system_node pair.0.node.system → (outlook other).root.system ≡ pair.0.node.system
one-system look other pair told e = ap system-of (node-one (outlook other).root (own_node pair.0.node.system) (root-id other) (own-of-id pair.0 (told-id look pair told)) e)

-- ---- looks

look-of : (routers : List Router) (looks : List Look) → AreLooks routers looks → (r : Router) → Contains routers r → (look : Look) × Contains looks look × (look.router ≡ r)
look-of routers looks are r h = of_map (λ (look : Look). look.router) looks r (subst (λ (rs : List Router). Contains rs r) (sym are.routers_are) h)

router-in : (routers : List Router) (looks : List Look) → AreLooks routers looks → (look : Look) → Contains looks look → Contains routers look.router
router-in routers looks are look h = subst (λ (rs : List Router). Contains rs look.router) are.routers_are (in_map (λ (look : Look). look.router) looks look h)

abbrev sys : LspId × Entry → SystemId
sys pair = pair.0.node.system

is-told : (routers : List Router) (looks : List Look) → AreLooks routers looks → (look : Look) (pair : LspId × Entry) → Contains looks look → Contains (told_of look) pair → Contains (flat_map systems_told routers) pair.0.node.system
is-told routers looks are look pair there told = in_flat_map systems_told routers look.router pair.0.node.system (router-in routers looks are look there) (in_map sys (told_of look) pair told)

known-by : (routers : List Router) (looks : List Look) → AreLooks routers looks → (look : Look) (pair : LspId × Entry) → Contains (told_of look) pair → Contains (map node_of routers) (system_node pair.0.node.system)
    → (other : Look) × Contains looks other × ((outlook other).root.system ≡ pair.0.node.system)
known-by routers looks are look pair told known =
    let o = of_map node_of routers (system_node pair.0.node.system) known in
    let l = look-of routers looks are o.0 o.1 in
    (l.0, l.1, one-system look l.0 pair told (ap node_of l.2 ∙ o.2))

-- ---- the whole

pub strangers-end : (routers : List Router) (looks : List Look) → AreLooks routers looks → (o : Option SystemId) → IsLeastForeign (map node_of routers) (flat_map systems_told routers) o → MatchOption o (AreKnown looks) (IsLeastStranger looks)
strangers-end routers looks are None h = λ look pair there told. known-by routers looks are look pair told (h pair.0.node.system (is-told routers looks are look pair there told))
strangers-end routers looks are (Some s) h = record {
  stranger = of (of_flat_map systems_told routers s h.0.0);
  least = λ other st. h.1 other (
    subst (Contains (flat_map systems_told routers)) st.is (is-told routers looks are st.look st.pair st.there st.told),
    (λ known. (let k = known-by routers looks are st.look st.pair st.told (subst (λ (t : SystemId). Contains (map node_of routers) (system_node t)) (sym st.is) known) in st.none k.0 k.1 (k.2 ∙ st.is))),
  );
}
  where
    unknown : (other : Look) → Contains looks other → (outlook other).root.system ≡ s → ⊥
    unknown other there e = h.0.1 (subst (Contains (map node_of routers)) (ap node_number (root-own other ∙ ap own_node e)) (in_map node_of routers other.router (router-in routers looks are other there)))

    of : ((r : Router) × Contains routers r × Contains (systems_told r) s) → IsStranger looks s
    of (r, there, told) =
        let l = look-of routers looks are r there in
        let p = of_map sys (outlook_of r).told.one s told in
        record {
          look = l.0;
          there = l.1;
          pair = p.0;
          told = subst (λ (x : Router). Contains (outlook_of x).told.one p.0) (sym l.2) p.1;
          is = p.2;
          none = unknown;
        }
