-- Systems that are reached, in any order, and the candidates that they give.
use Rattle.std.proofs.Common.{◌≡◌, ◌∙◌, ℕ, Bool, true, false, List, [], ◌∷◌, ◌++◌, map, Some, None, refl, sym, ap, subst, inl, inr, ◌||◌, append-nil, append_assoc}
use Rattle.std.specs.List.{Contains, flat_map, list_any}
use Rattle.std.proofs.lemmas.List.Elements.{Contains-append_left, Contains-append_right, Contains-append_cases}
use Rattle.isis_base.specs.declared.identifiers.SystemId.{SystemId}
use Rattle.isis_base.specs.declared.identifiers.NodeId.{NodeId}
use Rattle.isis_base.specs.declared.identifiers.LspId.{LspId}
use Rattle.isis_base.specs.declared.level.Level.TheVariants as level
use Rattle.isis_base.specs.declared.level.LevelSet.TheVariants as levels
use Rattle.lsp_store.specs.declared.entry.Entry.{Entry}
use Rattle.lsp_store.specs.Databases.{is_live}
use Rattle.spf_tree.specs.Nodes.{node_number}
use Rattle.spf_tree.specs.Distances.{cost_at, AreDistances}
use Rattle.spf_tree.specs.Graphs.{GraphOf}
use Rattle.spf_repair.specs.Changes.{RepairedOf}
use Rattle.model_router.specs.Both.{runs_of}
use Rattle.lsp_view.specs.Views.{own_node, lead_of, areas_at}
use Rattle.route_leaking.specs.Attachment.{is_attached, is_elsewhere}
use Rattle.route_table.specs.declared.candidate.Candidate.{Candidate}
use Rattle.router_routes.specs.declared.told.Moved.{Moved}
use Rattle.router_routes.specs.declared.view.LevelView.{LevelView}
use Rattle.router_routes.specs.declared.view.View.{View}
use Rattle.router_routes.specs.Outlooks.{where_run}
use Rattle.router_routes.specs.Told.{told_in, told_pair}
use Rattle.router_routes.specs.Candidates.{attached_of, reached_by, reached_in, system_ways, ways_of}
use Rattle.router_routes.specs.Following.{IsLevel}
use Rattle.router_routes.specs.Kept.{AreSame}
use Rattle.router_routes.specs.Moved.{FitMoved, IsFit, IsReadable, is_among, is_beside, is_one, outlook_at, told_after, told_by_nodes, told_moved, told_of}
use Rattle.router_routes.proofs.GraphLemmas.{IsGraphOf, level-reached}
use Rattle.router_routes.proofs.CandidateLemmas.{attached-both, reached-one, reached-two, told-are}
use Rattle.router_routes.proofs.MovedLemmas.{by-all, told-ids, told-rises}
use Rattle.router_routes.proofs.AfterLemmas.{after-among, after-beside}
use Rattle.router_routes.proofs.KeptLemmas.{flat-in, in-flat}
use Rattle.router_routes.proofs.BesideLemmas.{same-refl, same-both, same-back, same-append, same-parts, any-same}
use Rattle.lsp_view.specs.Lsps.{entries_in}
use Rattle.router_routes.proofs.ViewLemmas.{read-alone}

abbrev Pair : Type 0
Pair = LspId × Entry

abbrev Reached : Type 0
Reached = SystemId × ℕ

-- ---- lists of the same members

pub flat-append : {X Y : Type 0} (f : X → List Y) (xs ys : List X) → flat_map f (xs ++ ys) ≡ flat_map f xs ++ flat_map f ys
flat-append f [] ys = refl
flat-append f (x ∷ xs) ys = ap (λ (l : List _). f x ++ l) (flat-append f xs ys) ∙ sym (append_assoc (f x) (flat_map f xs) (flat_map f ys))

flat-to : {X Y : Type 0} (f : X → List Y) (xs ys : List X) → ((x : X) → Contains xs x → Contains ys x) → (y : Y) → Contains (flat_map f xs) y → Contains (flat_map f ys) y
flat-to f xs ys to y there = let o = flat-in f xs y there in in-flat f ys o.0 y (to o.0 o.1) o.2

pub same-flat : {X Y : Type 0} (f : X → List Y) (xs ys : List X) → AreSame xs ys → AreSame (flat_map f xs) (flat_map f ys)
same-flat f xs ys same y = (flat-to f xs ys (λ x. (same x).0) y, flat-to f ys xs (λ x. (same x).1) y)

swapped : {X : Type 0} (xs ys : List X) (x : X) → Contains (xs ++ ys) x → Contains (ys ++ xs) x
swapped xs ys x there =
    elim (Contains-append_cases xs ys x there) [
      | inl here ↦ Contains-append_right ys xs x here
      | inr more ↦ Contains-append_left ys xs x more
    ]

same-swap : {X : Type 0} (xs ys : List X) → AreSame (xs ++ ys) (ys ++ xs)
same-swap xs ys x = (swapped xs ys x, swapped ys xs x)

-- ---- systems, where some nodes are read elsewhere

module _ {Y : Type 0} (f : Pair → List Y) (level : LevelView) where
  pub reached-alone : level.moved ≡ None → (l m : List Y) → l ≡ [] → m ≡ l ++ flat_map f (told_by_nodes (is_one false []) (told_in level.store.now.entries)) → AreSame m (flat_map f (told_of level))
  reached-alone none l m e g =
      same-refl m (flat_map f (told_of level))
      (g ∙ ap (λ (x : List Y). x ++ flat_map f (told_by_nodes (is_one false []) (told_in level.store.now.entries))) e
      ∙ ap (flat_map f) (by-all (is_one false []) (λ n. refl) (told_in level.store.now.entries) ∙ read-alone level none))

  module _ (moved : Moved) (is : level.moved ≡ Some moved) (fit : IsFit level) where
    fits : IsReadable level.store.now.entries moved
    fits = subst (FitMoved level.store.now.entries) is fit

    nodes : List NodeId
    nodes = moved.nodes.now

    old : List Pair
    old = told_in level.store.now.entries

    here : List Pair
    here = told_in (entries_in moved.aside)

    whole : List Pair
    whole = told_after nodes old here

    others : told_by_nodes (is_beside nodes) whole ≡ told_by_nodes (is_beside nodes) old
    unfolding whole nodes old here
    others = after-beside moved.nodes.now (told_in level.store.now.entries) (told_in (entries_in moved.aside)) (told-ids level.store.now.entries fits.ids) (told-ids (entries_in moved.aside) fits.aside.ids) (told-rises 0 level.store.now.entries fits.rises)

    its : told_by_nodes (is_among nodes) whole ≡ told_by_nodes (is_among nodes) here
    unfolding whole nodes old here
    its = after-among moved.nodes.now (told_in level.store.now.entries) (told_in (entries_in moved.aside)) (told-ids level.store.now.entries fits.ids) (told-ids (entries_in moved.aside) fits.aside.ids) (told-rises 0 (entries_in moved.aside) fits.aside.rises)

    parts : AreSame (told_by_nodes (is_beside nodes) old ++ told_by_nodes (is_among nodes) here) whole
    parts =
        subst (λ (l : List Pair). AreSame (l ++ told_by_nodes (is_among nodes) here) whole) others
        (subst (λ (l : List Pair). AreSame (told_by_nodes (is_beside nodes) whole ++ l) whole) its
        (same-both _ _ whole (same-swap (told_by_nodes (is_beside nodes) whole) (told_by_nodes (is_among nodes) whole))
        (same-back whole _ (same-parts (λ (pair : Pair). is_among nodes (node_number pair.0.node)) whole))))

    pub reached-parts : (l m n : List Y) → l ≡ [] → m ≡ l ++ flat_map f (told_by_nodes (is_one false moved.nodes.now) (told_in level.store.now.entries)) → n ≡ m ++ flat_map f (told_by_nodes (is_one true moved.nodes.now) (told_in (entries_in moved.aside))) → AreSame n (flat_map f (told_of level))
    unfolding whole nodes old here
    reached-parts l m n e g h =
        let both =
        h ∙ ap (λ (x : List Y). x ++ flat_map f (told_by_nodes (is_among nodes) here)) (g ∙ ap (λ (x : List Y). x ++ flat_map f (told_by_nodes (is_beside nodes) old)) e)
        ∙ sym (flat-append f (told_by_nodes (is_beside nodes) old) (told_by_nodes (is_among nodes) here)) in
        subst (λ (l : List Pair). AreSame n (flat_map f l)) (sym (ap (told_moved (told_in level.store.now.entries)) is))
        (same-both n _ (flat_map f whole) (same-refl n _ both) (same-flat f _ whole parts))

-- one pair more of a walk: it tells something where it is live and of one of the nodes
module _ {Y : Type 0} (f : Pair → List Y) (c : ℕ → Bool) (pair : Pair) where
  pub those-one : is_live pair.1 ≡ true → c (node_number pair.0.node) ≡ true → f (told_pair pair) ≡ flat_map f (told_by_nodes c (told_in (pair ∷ [])))
  those-one live one = rw (live, one) (sym (append-nil (f (told_pair pair))))

  pub those-dead : is_live pair.1 ≡ false → [] ≡ flat_map f (told_by_nodes c (told_in (pair ∷ [])))
  those-dead dead = rw dead refl

  pub those-none : (t : Bool) → is_live pair.1 ≡ t → c (node_number pair.0.node) ≡ false → [] ≡ flat_map f (told_by_nodes c (told_in (pair ∷ [])))
  those-none true live other = rw (live, other) refl
  those-none false dead other = rw dead refl

  those-split : (pairs : List Pair) (t u : Bool) → is_live pair.1 ≡ t → c (node_number pair.0.node) ≡ u → flat_map f (told_by_nodes c (told_in (pair ∷ []))) ++ flat_map f (told_by_nodes c (told_in pairs)) ≡ flat_map f (told_by_nodes c (told_in (pair ∷ pairs)))
  those-split pairs true true live one = rw (live, one) (ap (λ (l : List Y). l ++ flat_map f (told_by_nodes c (told_in pairs))) (append-nil (f (told_pair pair))))
  those-split pairs true false live one = rw (live, one) refl
  those-split pairs false u live one = rw live refl

  pub those-turn : (pairs : List Pair) (list next all : List Y) → next ≡ list ++ flat_map f (told_by_nodes c (told_in (pair ∷ []))) → list ++ flat_map f (told_by_nodes c (told_in (pair ∷ pairs))) ≡ all → next ++ flat_map f (told_by_nodes c (told_in pairs)) ≡ all
  those-turn pairs list next all more e =
      ap (λ (l : List Y). l ++ flat_map f (told_by_nodes c (told_in pairs))) more
      ∙ append_assoc list (flat_map f (told_by_nodes c (told_in (pair ∷ [])))) (flat_map f (told_by_nodes c (told_in pairs)))
      ∙ ap (λ (l : List Y). list ++ l) (those-split pairs (is_live pair.1) (c (node_number pair.0.node)) refl refl)
      ∙ e

pub level-same : (runs : Bool) (told : List Pair) (root from : NodeId) (graph : GraphOf) (distances : List (ℕ × ℕ)) (list : List Reached) → runs ≡ true → IsGraphOf (where_run runs told) root graph → from ≡ graph.root → AreDistances graph.rows (node_number root) distances
    → AreSame list (flat_map (reached_by (cost_at distances) (node_number from)) told) → AreSame list (reached_in (where_run runs told) root)
level-same runs told root from graph distances list run is at-root are same = subst (λ (l : List Reached). AreSame list l) (level-reached runs told root from graph distances _ run is at-root are refl) same

-- ---- candidates of them

module _ (view : View) (ones twos : List Reached) (one : AreSame ones (reached_in (outlook_at view).told.one (outlook_at view).root)) where
  abbrev Ones : List Reached
  Ones = reached_in (outlook_at view).told.one (outlook_at view).root

  abbrev Twos : List Reached
  Twos = reached_in (outlook_at view).told.two (outlook_at view).root

  pub told-same : AreSame twos Twos → (l m n : List Candidate) → l ≡ [] → m ≡ l ++ flat_map (system_ways level.One (told_of view.one)) ones → n ≡ m ++ flat_map (system_ways level.Two (told_of view.two)) twos → AreSame n (ways_of (outlook_at view))
  told-same two l m n e f g =
      same-both n (flat_map (system_ways level.One (told_of view.one)) ones ++ flat_map (system_ways level.Two (told_of view.two)) twos) (ways_of (outlook_at view))
      (same-refl n _ (g ∙ ap (λ (x : List Candidate). x ++ flat_map (system_ways level.Two (told_of view.two)) twos) (f ∙ ap (λ (x : List Candidate). x ++ flat_map (system_ways level.One (told_of view.one)) ones) e)))
      (subst (λ (l : List Candidate). AreSame (flat_map (system_ways level.One (told_of view.one)) ones ++ flat_map (system_ways level.Two (told_of view.two)) twos) l) (told-are view Ones Twos refl refl [] _ _ refl refl refl)
      (same-append (flat_map (system_ways level.One (told_of view.one)) ones) (flat_map (system_ways level.Two (told_of view.two)) twos) _ _ (same-flat (system_ways level.One (told_of view.one)) ones Ones one) (same-flat (system_ways level.Two (told_of view.two)) twos Twos two)))

any-map : {X Y : Type 0} (p : Y → Bool) (f : X → Y) (xs : List X) → list_any p (map f xs) ≡ list_any (λ x. p (f x)) xs
any-map p f [] = refl
any-map p f (x ∷ xs) = ap (λ (t : Bool). p (f x) || t) (any-map p f xs)

pub attached-same : (view : View) (twos : List Reached) (attached : Bool) → view.levels ≡ levels.Both → AreSame twos (reached_in (outlook_at view).told.two (outlook_at view).root)
    → attached ≡ is_attached view.areas.now (map (λ (s : Reached). areas_at (lead_of (told_of view.two) (own_node s.0))) twos) → attached ≡ attached_of (outlook_at view)
attached-same view twos attached both same is =
    let f = λ (s : Reached). areas_at (lead_of (told_of view.two) (own_node s.0)) in
    let all = reached_in (outlook_at view).told.two (outlook_at view).root in
    attached-both view all attached both refl
    (is ∙ any-map (is_elsewhere view.areas.now) f twos ∙ any-same (λ s. is_elsewhere view.areas.now (f s)) twos all same ∙ sym (any-map (is_elsewhere view.areas.now) f all))

module _ (view : View) (repaired : RepairedOf) (runs : Bool) (list : List Reached) where
  pub ones-same : IsLevel (outlook_at view) level.One repaired → runs ≡ (runs_of view.levels).one → AreSame list (reached_in (where_run runs (told_of view.one)) repaired.root) → AreSame list (reached_in (outlook_at view).told.one (outlook_at view).root)
  ones-same is e same = subst (λ (l : List Reached). AreSame list l) (reached-one view repaired runs _ is e refl) same

  pub twos-same : IsLevel (outlook_at view) level.Two repaired → runs ≡ (runs_of view.levels).two → AreSame list (reached_in (where_run runs (told_of view.two)) repaired.root) → AreSame list (reached_in (outlook_at view).told.two (outlook_at view).root)
  twos-same is e same = subst (λ (l : List Reached). AreSame list l) (reached-two view repaired runs _ is e refl) same
