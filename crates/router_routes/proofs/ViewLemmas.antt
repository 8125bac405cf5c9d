-- What is read where some nodes tell something else, and a router's outlook then.
use Rattle.std.proofs.Common.{◌≡◌, ◌∙◌, ℕ, Bool, true, false, List, Option, Some, None, refl, sym, ap, subst, arith, inl, inr, ◌-◌, ◌≤◌, length, take, drop, [], ◌∷◌, ◌==◌}
use Rattle.std.specs.Prelude.{IfSome, MatchOption, slice_index_or}
use Rattle.std.proofs.lemmas.Bool.{eq-eqb}
use Rattle.isis_base.specs.declared.identifiers.SystemId.{SystemId}
use Rattle.isis_base.specs.declared.identifiers.NodeId.{NodeId}
use Rattle.isis_base.specs.declared.identifiers.LspId.{LspId}
use Rattle.isis_base.specs.declared.prefix.Prefix.{Prefix}
use Rattle.isis_base.specs.Identifiers.{IsId}
use Rattle.model_router.specs.Both.{runs_of}
use Rattle.lsp_store.specs.declared.entry.Entry.{Entry}
use Rattle.lsp_store.specs.Maps.{RisesFrom}
use Rattle.spf_tree.specs.Nodes.{node_number}
use Rattle.lsp_view.specs.Views.{own_node, lead_of, reach_in}
use Rattle.router_routes.specs.declared.lent.Lent.{Lent}
use Rattle.router_routes.specs.declared.told.Moved.{Moved}
use Rattle.router_routes.specs.declared.told.Told.{Told}
use Rattle.router_routes.specs.declared.view.LevelView.{LevelView}
use Rattle.router_routes.specs.declared.view.View.{View}
use Rattle.router_routes.specs.Outlooks.{Outlook, where_run, outlook_in}
use Rattle.router_routes.specs.Told.{told_in}
use Rattle.router_routes.specs.Kept.{AreBeside}
use Rattle.router_routes.specs.Moved.{AreFit, AreMoved, AreNodes, AreViewed, FitMoved, HaveIds, IsAside, IsFit, IsInOrder, IsListing, IsMovedBy, IsReadable, is_among, is_beside, nodes_in, nodes_of, outlook_at, told_after, told_at, told_by_nodes, told_moved, told_of}
use Rattle.std.proofs.Math.Seq.{take-length}
use Rattle.spf_tree.proofs.SearchLemmas.{contains_cases}
use Rattle.router_routes.proofs.IdLemmas.{stands}
use Rattle.router_routes.proofs.MovedLemmas.{by-less, lead-same, reach-same, told-ids, told-rises}
use Rattle.lsp_view.specs.Lsps.{entries_in}
use Rattle.router_routes.proofs.AfterLemmas.{after-beside, after-ids, after-rises, among-left, among-right, at-here, at-old, list-more, only-after}

abbrev Pair : Type 0
Pair = LspId × Entry

-- ---- a node's LSPs, where they are read

module _ (level : LevelView) (moved : Moved) (is : level.moved ≡ Some moved) (fit : IsFit level) (node : NodeId) where
  fits : IsReadable level.store.now.entries moved
  fits = subst (FitMoved level.store.now.entries) is fit

  whole : told_at node (told_after moved.nodes.now (told_in level.store.now.entries) (told_in (entries_in moved.aside))) ≡ told_at node (told_of level)
  whole = sym (ap (λ (o : Option Moved). told_at node (told_moved (told_in level.store.now.entries) o)) is)

  store-ids : HaveIds (told_in level.store.now.entries)
  store-ids = told-ids level.store.now.entries fits.ids

  aside-ids : HaveIds (told_in (entries_in moved.aside))
  aside-ids = told-ids (entries_in moved.aside) fits.aside.ids

  pub read-aside : is_among moved.nodes.now (node_number node) ≡ true → told_at node (told_in (entries_in moved.aside)) ≡ told_at node (told_of level)
  read-aside there = at-here moved.nodes.now (told_in level.store.now.entries) (told_in (entries_in moved.aside)) store-ids aside-ids node (told-rises 0 (entries_in moved.aside) fits.aside.rises) there ∙ whole

  pub read-store : is_among moved.nodes.now (node_number node) ≡ false → told_at node (told_in level.store.now.entries) ≡ told_at node (told_of level)
  read-store apart = at-old moved.nodes.now (told_in level.store.now.entries) (told_in (entries_in moved.aside)) store-ids aside-ids node (told-rises 0 level.store.now.entries fits.rises) apart ∙ whole

pub read-alone : (level : LevelView) → level.moved ≡ None → told_in level.store.now.entries ≡ told_of level
read-alone level none = sym (ap (told_moved (told_in level.store.now.entries)) none)

moved-ids : (entries : List Pair) (o : Option Moved) → HaveIds entries → FitMoved entries o → HaveIds (told_moved (told_in entries) o)
moved-ids entries None ids fit = told-ids entries ids
moved-ids entries (Some moved) ids fit = after-ids moved.nodes.now (told_in entries) (told_in (entries_in moved.aside)) (told-ids entries ids) (told-ids (entries_in moved.aside) fit.aside.ids)

pub level-ids : (level : LevelView) → HaveIds level.store.now.entries → IsFit level → HaveIds (told_of level)
level-ids level ids fit = moved-ids level.store.now.entries level.moved ids fit

pub listing : (entries : List Pair) (moved : Moved) → IsReadable entries moved → IsListing (told_after moved.nodes.now (told_in entries) (told_in (entries_in moved.aside)))
listing entries moved fit =
    let ids = told-ids entries fit.ids in
    let aside-ids = told-ids (entries_in moved.aside) fit.aside.ids in
    record {
      ids = after-ids moved.nodes.now (told_in entries) (told_in (entries_in moved.aside)) ids aside-ids;
      rises = after-rises moved.nodes.now (told_in entries) (told_in (entries_in moved.aside)) fit.aside.nodes ids aside-ids (told-rises 0 entries fit.rises) (told-rises 0 (entries_in moved.aside) fit.aside.rises);
    }

-- what one node's LSPs tell is read off them alone
module _ (entries : List Pair) (level : LevelView) (system : SystemId) (id : IsId (record { node = own_node system; number = 255 })) (ids : HaveIds entries) (level-are : HaveIds (told_of level)) (same : told_at (own_node system) (told_in entries) ≡ told_at (own_node system) (told_of level)) where
  its : (node_number (own_node system) == node_number (own_node system)) ≡ true
  its = eq-eqb (node_number (own_node system)) (node_number (own_node system)) refl

  pub lead-read : lead_of (told_in entries) (own_node system) ≡ lead_of (told_of level) (own_node system)
  lead-read = lead-same (λ m. m == node_number (own_node system)) (told_in entries) (told_of level) (told-ids entries ids) level-are same (own_node system) (stands (record { node = own_node system; number = 255 }) id).first its

  pub reach-read : reach_in (told_in entries) system ≡ reach_in (told_of level) system
  reach-read = reach-same (λ m. m == node_number (own_node system)) (told_in entries) (told_of level) (told-ids entries ids) level-are same system id its

-- ---- a view that is fit

moved-fit : (entries : List Pair) (o : Option Moved) → HaveIds entries → RisesFrom 0 entries → IfSome o (λ m. IsAside m) → IsInOrder o → FitMoved entries o
moved-fit entries None ids rises aside each = tt
moved-fit entries (Some moved) ids rises aside each = record { ids = ids; rises = rises; aside = aside; each = each }

module _ (lent : Lent) (told : Told) (view : View) (v : AreViewed lent told view) (ids-one : HaveIds lent.one.now.entries) (rises-one : RisesFrom 0 lent.one.now.entries) (ids-two : HaveIds lent.two.now.entries) (rises-two : RisesFrom 0 lent.two.now.entries) (aside-one : IfSome told.one (λ m. IsAside m)) (aside-two : IfSome told.two (λ m. IsAside m)) (each-one' : IsInOrder told.one) (each-two : IsInOrder told.two) where
  fit-one : FitMoved lent.one.now.entries told.one
  fit-one = moved-fit lent.one.now.entries told.one ids-one rises-one aside-one each-one'

  fit-two : FitMoved lent.two.now.entries told.two
  fit-two = moved-fit lent.two.now.entries told.two ids-two rises-two aside-two each-two

  pub viewed-fit : AreFit view
  viewed-fit = record { one = subst (λ (l : LevelView). IsFit l) (sym v.one) fit-one; two = subst (λ (l : LevelView). IsFit l) (sym v.two) fit-two }

  -- ---- a router's outlook then

  view-is : outlook_at view ≡ record {
    root = own_node lent.system;
    areas = lent.areas.now;
    runs = runs_of lent.levels;
    prefixes = view.prefixes.now;
    told = record { one = where_run (runs_of lent.levels).one (told_moved (told_in lent.one.now.entries) told.one); two = where_run (runs_of lent.levels).two (told_moved (told_in lent.two.now.entries) told.two) };
  }
  unfolding outlook_at
  view-is = λ i. record {
    root = own_node (v.system i);
    areas = v.areas i;
    runs = runs_of (v.levels i);
    prefixes = view.prefixes.now;
    told = record { one = where_run (runs_of (v.levels i)).one (told_of (v.one i)); two = where_run (runs_of (v.levels i)).two (told_of (v.two i)) };
  }

  moved-list : (runs : Bool) (entries new : List Pair) (o : Option Moved) → HaveIds entries → FitMoved entries o → IsMovedBy o runs (where_run runs (told_in entries)) new → new ≡ where_run runs (told_moved (told_in entries) o)
  moved-list runs entries new None ids fit is = is
  moved-list true entries new (Some moved) ids fit is =
      let m = is.1 in
      only-after moved.nodes.now (told_in entries) (told_in (entries_in moved.aside)) new m.rises (told-ids entries ids) (told-ids (entries_in moved.aside) fit.aside.ids) m.others
      (sym (by-less (is_among moved.nodes.now) (is_among moved.nodes.now) (λ n h. h) new) ∙ ap (told_by_nodes (is_among moved.nodes.now)) m.here)
  moved-list false entries new (Some moved) ids fit is = absurd (let e : false ≡ true = is.0 in cc)

  prefixes-are : {X : Type 0} (p : Option X) (f : X → List (Prefix × ℕ)) (n old w : List (Prefix × ℕ)) → MatchOption p (n ≡ old) (λ x. n ≡ f x) → MatchOption p (w ≡ old) (λ x. w ≡ f x) → n ≡ w
  prefixes-are None f n old w a b = a ∙ sym b
  prefixes-are (Some x) f n old w a b = a ∙ sym b

  pub viewed-same : (o : Outlook) → AreMoved (outlook_in lent) o told → o ≡ outlook_at view
  unfolding outlook_in
  viewed-same o is =
      let one = moved-list (runs_of lent.levels).one lent.one.now.entries o.told.one told.one ids-one fit-one is.one in
      let two = moved-list (runs_of lent.levels).two lent.two.now.entries o.told.two told.two ids-two fit-two is.two in
      let ps = prefixes-are told.prefixes (λ x. x.now) o.prefixes lent.prefixes.now view.prefixes.now is.prefixes v.prefixes in
      let all : o ≡ record {
        root = own_node lent.system;
        areas = lent.areas.now;
        runs = runs_of lent.levels;
        prefixes = view.prefixes.now;
        told = record { one = where_run (runs_of lent.levels).one (told_moved (told_in lent.one.now.entries) told.one); two = where_run (runs_of lent.levels).two (told_moved (told_in lent.two.now.entries) told.two) };
      } = λ i. record { root = is.root i; areas = is.areas i; runs = is.runs i; prefixes = ps i; told = record { one = one i; two = two i } } in
      all ∙ sym view-is

  beside-level : (runs : Bool) (entries : List Pair) (o : Option Moved) → HaveIds entries → RisesFrom 0 entries → FitMoved entries o
      → told_by_nodes (is_beside (nodes_in o)) (where_run runs (told_in entries)) ≡ told_by_nodes (is_beside (nodes_in o)) (where_run runs (told_moved (told_in entries) o))
  beside-level runs entries None ids rises fit = refl
  beside-level false entries (Some moved) ids rises fit = refl
  beside-level true entries (Some moved) ids rises fit = sym (after-beside moved.nodes.now (told_in entries) (told_in (entries_in moved.aside)) (told-ids entries ids) (told-ids (entries_in moved.aside) fit.aside.ids) (told-rises 0 entries rises))

  pub viewed-beside : AreBeside (nodes_of told) (outlook_in lent) (outlook_at view)
  unfolding outlook_in
  viewed-beside =
      subst (λ (o : Outlook). AreBeside (nodes_of told) (outlook_in lent) o) (sym view-is)
      (record {
        root = refl;
        areas = refl;
        runs = refl;
        one = list-more (nodes_in told.one) (nodes_of told) _ _ (among-left (nodes_in told.one) (nodes_in told.two)) (beside-level (runs_of lent.levels).one lent.one.now.entries told.one ids-one rises-one fit-one);
        two = list-more (nodes_in told.two) (nodes_of told) _ _ (among-right (nodes_in told.one) (nodes_in told.two)) (beside-level (runs_of lent.levels).two lent.two.now.entries told.two ids-two rises-two fit-two);
      })

-- ---- a walk over nodes

all-take : (xs : List NodeId) (n : ℕ) → n ≡ length xs → take n xs ≡ xs
all-take xs n is = ap (λ (k : ℕ). take k xs) is ∙ take-length xs

pub nodes-turn : (left : List NodeId) (d : NodeId) → 1 ≤ length left → IsId (record { node = slice_index_or left 0 d; number = 0 }) → AreNodes (take (length left - 1) (drop 1 left)) → AreNodes left
nodes-turn [] d some id rest m there = absurd (omega (arith, some))
nodes-turn (x ∷ xs) d some id rest m there =
    elim (contains_cases x m xs there) [
      | inl same ↦ subst (λ (n : NodeId). IsId (record { node = n; number = 0 })) same id
      | inr more ↦ subst AreNodes (all-take xs (length (x ∷ xs) - 1) (omega arith)) rest m more
    ]
