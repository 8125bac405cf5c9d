-- What holds of each router that is looked at, and of its own routes.
use Rattle.std.proofs.Common.{◌≡◌, ◌∙◌, ℕ, Bool, true, false, List, [], ◌∷◌, map, filter, refl, ap, subst, if◌then◌else◌}
use Rattle.std.specs.List.{Contains, AllZip}
use Rattle.std.proofs.lemmas.Bool.{eqb-true, eq-eqb}
use Rattle.std.proofs.lemmas.List.Elements.{All-contains, All-from_recursion}
use Rattle.std.proofs.lemmas.List.Sorted.{Contains-permutation, IsPermutation-sym}
use Rattle.isis_base.specs.declared.level.Level.TheVariants as level
use Rattle.isis_base.specs.Identifiers.{IsId}
use Rattle.isis_tlv.specs.declared.prefix.PrefixItem.{PrefixItem}
use Rattle.model_router.specs.Ranks.{is_live}
use Rattle.model_router.specs.Cells.{Cell}
use Rattle.model_router.specs.Numbers.{lsp_id}
use Rattle.model_router.specs.Routers.{book_of}
use Rattle.lsp_store.specs.Databases as databases
use Rattle.lsp_view.specs.Views.{own_node}
use Rattle.spf_tree.specs.Nodes.{is_system}
use Rattle.route_table.specs.declared.route.Route.{Route}
use Rattle.route_table.specs.Ranks.{rank_number, prefix_number}
use Rattle.router_routes.specs.Told.{told, told_by}
use Rattle.router_routes.specs.Outlooks.{where_run, outlook_of}
use Rattle.forward_views.proofs.MoveLemmas.{of_filter, to_filter}
use Rattle.forward_views.proofs.WalkedLemmas.{route_one}
use Rattle.forward_views.specs.Looks.{Look, outlook, root_of, told_of, is_own, way_of, own_items, item_way, AreAlike, IsOwner}
use Rattle.forward_views.proofs.ListLemmas.{in_map, of_map}
use Rattle.forward_views.proofs.NodeLemmas.{zero_of, lsp-id, own-id, own-is, there-system}
use Rattle.forward_views.proofs.SaidLemmas.{Pair, IsSame, AreTold, told-same}

-- ---- what a router is told

told-cells : (cells : List (ℕ × Cell)) → AreTold (told_by cells)
told-cells [] = tt
told-cells (pair ∷ cells) = go (is_live pair.1.rank) (told-cells cells)
  where
    go : (t : Bool) → AreTold (told_by cells) → AreTold (if t then (lsp_id pair.0, told pair.1.flags pair.1.octets) ∷ told_by cells else told_by cells)
    go true rest = ((lsp-id pair.0, refl), rest)
    go false rest = rest

run-told : (runs : Bool) (told : List Pair) → AreTold told → AreTold (where_run runs told)
run-told true told are = are
run-told false told are = tt

pub look-told : (look : Look) → AreTold (told_of look)
unfolding outlook_of
look-told look = run-told look.router.config.runs.one (told_by (book_of look.router level.One).cells) (told-cells (book_of look.router level.One).cells)

pub told-id : (look : Look) (pair : Pair) → Contains (told_of look) pair → IsId pair.0
told-id look pair there =
    (All-contains (λ (p : Pair). IsId p.0 × (databases.is_live p.1 ≡ true)) (told_of look) pair (All-from_recursion (λ (p : Pair). IsId p.0 × (databases.is_live p.1 ≡ true)) (told_of look) (look-told look)) there).0

pub root-id : (look : Look) → IsId (zero_of (outlook look).root)
unfolding outlook_of
root-id look = own-id look.router.config.system

pub root-own : (look : Look) → (outlook look).root ≡ own_node (outlook look).root.system
unfolding outlook_of
root-own look = refl

pub root-zero : (look : Look) → (outlook look).root.pseudonode ≡ 0
unfolding outlook_of
root-zero look = refl

pub root-system : (look : Look) → is_system (root_of look) ≡ true
root-system look = there-system (outlook look).root (root-id look) (root-zero look)

-- ---- of routers that are alike

module _ (looks : List Look) (alike : AreAlike looks) where
  pub same-as : (a b : Look) → Contains looks a → Contains looks b → AllZip IsSame (told_of a) (told_of b)
  same-as a b in_a in_b = told-same (told_of a) (told_of b) (look-told a) (look-told b) (alike.same a b in_a in_b)

  -- a node that an LSP is of, where it is a system, is that of one of the routers
  pub known-node : (look : Look) (pair : Pair) → Contains looks look → Contains (told_of look) pair → pair.0.node.pseudonode ≡ 0 → (other : Look) × Contains looks other × ((outlook other).root ≡ pair.0.node)
  known-node look pair there told zero =
      let k = alike.known look pair there told in
      (k.0, k.1, root-own k.0 ∙ ap own_node k.2 ∙ own-is pair.0.node zero)

  -- ---- own routes and what tells them

  pub own-of : (look : Look) (item : PrefixItem) → Contains looks look → Contains (own_items look) item → (route : Route) × Contains look.routes route × (rank_number route.rank ≡ 0) × (way_of route ≡ item_way item)
  own-of look item there listed =
      let of_way = of_map way_of (filter is_own look.routes) (item_way item) (Contains-permutation (map item_way (own_items look)) (map way_of (filter is_own look.routes)) (item_way item) (alike.settled look there).same (in_map item_way (own_items look) item listed)) in
      let kept = of_filter is_own look.routes of_way.0 of_way.1 in
      (of_way.0, kept.0, eqb-true (rank_number of_way.0.rank) 0 kept.1, of_way.2)

  pub item-of : (look : Look) (route : Route) → Contains looks look → Contains look.routes route → rank_number route.rank ≡ 0 → (item : PrefixItem) × Contains (own_items look) item × (item_way item ≡ way_of route)
  item-of look route there listed own =
      let kept = to_filter is_own look.routes route listed (eq-eqb (rank_number route.rank) 0 own) in
      of_map item_way (own_items look) (way_of route)
      (Contains-permutation (map way_of (filter is_own look.routes)) (map item_way (own_items look)) (way_of route) (IsPermutation-sym (map item_way (own_items look)) (map way_of (filter is_own look.routes)) (alike.settled look there).same) (in_map way_of (filter is_own look.routes) route kept))

  -- ---- the owner's route

  module _ (prefix : ℕ) (owner : Look) (is : IsOwner looks prefix owner) where
    pub one-route : (look : Look) (route : Route) → look ≡ owner → Contains look.routes route → prefix_number route.prefix ≡ prefix → route ≡ is.own.0
    one-route look route e listed same =
        route_one owner.routes prefix route is.own.0 (alike.routes_are owner is.there).rising (subst (λ (l : Look). Contains l.routes route) e listed) is.own.1 same is.own.2
