-- LSPs of a router's own that list a neighbour at metric 0.
use Rattle.std.proofs.Common.{◌≡◌, ℕ, ◌==◌, Bool, true, false, not, List, sym, ap, ◌∙◌, subst, refl, arith}
use Rattle.std.specs.Prelude.{MatchBool}
use Rattle.std.specs.List.{Contains, list_any}
use Rattle.std.proofs.lemmas.Bool.Decides.{nat_tests}
use Rattle.isis_base.specs.declared.identifiers.LspId.{LspId}
use Rattle.isis_tlv.specs.declared.neighbour.NeighbourItem.{NeighbourItem}
use Rattle.model_router.specs.Routers.{Router}
use Rattle.lsp_store.specs.declared.entry.Entry.{Entry}
use Rattle.lsp_store.specs.Databases.{live_of}
use Rattle.lsp_view.specs.Bodies.{neighbours_in}
use Rattle.spf_tree.specs.Nodes.{node_number}
use Rattle.router_routes.specs.Told.{told_pair, told_in}
use Rattle.router_routes.specs.Outlooks.{outlook_of}
use Rattle.router_routes.proofs.ToldLemmas.{neighbours-shown}
use Rattle.forward_views.specs.Looks.{Look, told_of}
use Rattle.forward_views.proofs.ListLemmas.{in_map, of_map}
use Rattle.walk_text.specs.Tests.{ListsNoZero}
use Rattle.walk_text.specs.Foreign.{node_of}
use Rattle.walk_text.specs.Zeros.{has_zero, lists_zero}
use Rattle.walk_text.proofs.ListLemmas.{any-contains, contains-any}
use Rattle.walk_text.proofs.OwnerLemmas.{and-first, and-last}

-- an LSP that is told lists the neighbours of the one that is stored
lists : (entries : List (LspId × Entry)) (node : ℕ) → list_any (lists_zero node) (live_of entries) ≡ true
    → (pair : LspId × Entry) × Contains (told_in entries) pair × (node_number pair.0.node ≡ node) × ((item : NeighbourItem) × Contains (neighbours_in pair.1.octets) item × (item.metric ≡ 0))
lists entries node e =
    let h = any-contains (lists_zero node) (live_of entries) e in
    let p = and-first (node_number h.0.0.node == node) (has_zero (neighbours_in h.0.1.octets)) h.2 in
    let q = and-last (node_number h.0.0.node == node) (has_zero (neighbours_in h.0.1.octets)) h.2 in
    let item = any-contains (λ (item : NeighbourItem). item.metric == 0) (neighbours_in h.0.1.octets) q in
    (told_pair h.0, in_map told_pair (live_of entries) h.0 h.1, (grind (arith, nat_tests, p)), (item.0, subst (λ (l : List NeighbourItem). Contains l item.0) (sym (neighbours-shown h.0.1.octets)) item.1, (let z = item.2 in grind (arith, nat_tests, z))))

listed : (entries : List (LspId × Entry)) (node : ℕ) (pair : LspId × Entry) → Contains (told_in entries) pair → node_number pair.0.node ≡ node → (item : NeighbourItem) → Contains (neighbours_in pair.1.octets) item → item.metric ≡ 0
    → list_any (lists_zero node) (live_of entries) ≡ true
listed entries node pair there own item in_it zero =
    let o = of_map told_pair (live_of entries) pair there in
    let node_is : node_number o.0.0.node ≡ node = ap (λ (p : LspId × Entry). node_number p.0.node) o.2 ∙ own in
    let shows : Contains (neighbours_in (told_pair o.0).1.octets) item = subst (λ (p : LspId × Entry). Contains (neighbours_in p.1.octets) item) (sym o.2) in_it in
    let has : Contains (neighbours_in o.0.1.octets) item = subst (λ (l : List NeighbourItem). Contains l item) (neighbours-shown o.0.1.octets) shows in
    let p : (node_number o.0.0.node == node) ≡ true = grind (arith, nat_tests, node_is) in
    let q : has_zero (neighbours_in o.0.1.octets) ≡ true = contains-any (λ (item : NeighbourItem). item.metric == 0) (neighbours_in o.0.1.octets) item has (grind (arith, nat_tests, zero)) in
    contains-any (lists_zero node) (live_of entries) o.0 o.1 (rw (p, q) refl)

pub zero-told : (look : Look) (r : Router) (entries : List (LspId × Entry)) (node : ℕ) (zero : Bool) → look.router ≡ r → (outlook_of r).told.one ≡ told_in entries → node ≡ node_of r → zero ≡ list_any (lists_zero node) (live_of entries)
    → MatchBool (not zero) (ListsNoZero look) (ListsNoZero look → ⊥)
zero-told look r entries node zero e told own is = by zero refl
  where
    told_is : told_of look ≡ told_in entries
    told_is = ap (λ (x : Router). (outlook_of x).told.one) e ∙ told

    root_is : node_of look.router ≡ node
    root_is = ap node_of e ∙ sym own

    by : (t : Bool) → zero ≡ t → MatchBool (not t) (ListsNoZero look) (ListsNoZero look → ⊥)
    by true t = λ no_zero. (let h = lists entries node (sym is ∙ t) in no_zero (h.0, subst (λ (ps : List (LspId × Entry)). Contains ps h.0) (sym told_is) h.1, h.2 ∙ sym root_is, h.3))
    by false t = λ h. (let clash : true ≡ false = sym (listed entries node h.0 (subst (λ (ps : List (LspId × Entry)). Contains ps h.0) told_is h.1) (h.2 ∙ root_is) h.3.0 h.3.1 h.3.2) ∙ (sym is ∙ t) in cc)
