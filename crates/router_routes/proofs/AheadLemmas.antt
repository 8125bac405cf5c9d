-- What follows a router before this is told, and once it is.
use Rattle.std.proofs.Common.{◌≡◌, ◌∙◌, ℕ, ◌==◌, Bool, true, false, ◌||◌, not, List, [], ◌∷◌, ◌++◌, Option, Some, None, refl, sym, ap, subst, arith, append-nil}
use Rattle.std.specs.Prelude.{MatchOption}
use Rattle.std.proofs.lemmas.Bool.Decides.{nat_tests}
use Rattle.isis_base.specs.declared.identifiers.NodeId.{NodeId}
use Rattle.isis_base.specs.declared.identifiers.LspId.{LspId}
use Rattle.isis_base.specs.declared.level.Level.{Level}
use Rattle.isis_base.specs.declared.level.Level.TheVariants as level
use Rattle.model_router.specs.Both.{runs_of}
use Rattle.lsp_store.specs.declared.entry.Entry.{Entry}
use Rattle.lsp_store.specs.Maps.{RisesFrom}
use Rattle.lsp_view.specs.Views.{own_node, rows_in, overloaded_in}
use Rattle.spf_tree.specs.Nodes.{node_number}
use Rattle.spf_tree.specs.Graphs.{AreUsable}
use Rattle.spf_repair.specs.Changes.{RepairedOf}
use Rattle.router_routes.specs.declared.lent.Lent.{Lent}
use Rattle.router_routes.specs.declared.told.Moved.{Moved}
use Rattle.router_routes.specs.declared.told.Told.{Told}
use Rattle.router_routes.specs.declared.view.LevelView.{LevelView}
use Rattle.router_routes.specs.declared.view.View.{View}
use Rattle.router_routes.specs.Told.{told_in}
use Rattle.router_routes.specs.Outlooks.{Outlook, where_run, outlook_in}
use Rattle.router_routes.specs.Following.{FollowingOf, IsFollowing, IsLevel}
use Rattle.router_routes.specs.Kept.{AreAmong}
use Rattle.router_routes.specs.Moved.{AreCosts, AreMoved, AreMovedTo, AreViewed, IsMovedAt, IsMovedBy, is_among, is_beside, nodes_in, nodes_of, or_old, outlook_at, told_at, told_beside, told_of}
use Rattle.lsp_view.specs.Lsps.{entries_in}
use Rattle.router_routes.proofs.MovedLemmas.{by-same}

abbrev Pair : Type 0
Pair = LspId × Entry

module _ (lent : Lent) (told : Told) (view : View) (v : AreViewed lent told view) (f : FollowingOf) (is : IsFollowing (outlook_in lent) f) where
  -- ---- costs before

  costs-of : (list : List Pair) (root : NodeId) (r : RepairedOf) → r.root ≡ root → AreUsable (rows_in list) (overloaded_in list) root r.graph → AreCosts list r.root r
  costs-of list root r same are = record { root = refl; graph = subst (λ (n : NodeId). AreUsable (rows_in list) (overloaded_in list) n r.graph) (sym same) are }

  pub before-one : (runs : Bool) → runs ≡ (runs_of lent.levels).one → (r : RepairedOf) → r ≡ f.levels.one → AreCosts (where_run runs (told_in view.one.store.now.entries)) r.root r
  unfolding outlook_in
  before-one runs e r same =
      subst (λ (l : LevelView). AreCosts (where_run runs (told_in l.store.now.entries)) r.root r) (sym v.one)
      (subst (λ (t : Bool). AreCosts (where_run t (told_in lent.one.now.entries)) r.root r) (sym e)
      (subst (λ (q : RepairedOf). AreCosts (where_run (runs_of lent.levels).one (told_in lent.one.now.entries)) q.root q) (sym same) (costs-of _ (own_node lent.system) f.levels.one is.one.root is.one.graph)))

  pub before-two : (runs : Bool) → runs ≡ (runs_of lent.levels).two → (r : RepairedOf) → r ≡ f.levels.two → AreCosts (where_run runs (told_in view.two.store.now.entries)) r.root r
  unfolding outlook_in
  before-two runs e r same =
      subst (λ (l : LevelView). AreCosts (where_run runs (told_in l.store.now.entries)) r.root r) (sym v.two)
      (subst (λ (t : Bool). AreCosts (where_run t (told_in lent.two.now.entries)) r.root r) (sym e)
      (subst (λ (q : RepairedOf). AreCosts (where_run (runs_of lent.levels).two (told_in lent.two.now.entries)) q.root q) (sym same) (costs-of _ (own_node lent.system) f.levels.two is.two.root is.two.graph)))

  -- ---- costs once it is told

  at-root : (list : List Pair) (root : NodeId) (r : RepairedOf) → AreCosts list root r → (n : NodeId) → root ≡ n → AreCosts list n r
  at-root list root r are n e = subst (λ (m : NodeId). AreCosts list m r) e are

  root-one : f.levels.one.root ≡ own_node view.system
  unfolding outlook_in
  root-one = is.one.root ∙ ap own_node (sym v.system)

  root-two : f.levels.two.root ≡ own_node view.system
  unfolding outlook_in
  root-two = is.two.root ∙ ap own_node (sym v.system)

  pub after-one : (runs : Bool) → runs ≡ (runs_of lent.levels).one → (r : RepairedOf) → r ≡ f.levels.one → (answer : Option RepairedOf) → AreCosts (where_run runs (told_of view.one)) r.root (or_old answer r) → IsLevel (outlook_at view) level.One (or_old answer f.levels.one)
  unfolding outlook_at
  after-one runs e r same answer are =
      let runs-are : runs ≡ (runs_of view.levels).one = e ∙ sym (ap (λ l. (runs_of l).one) v.levels) in
      let here = subst (λ (t : Bool). AreCosts (where_run t (told_of view.one)) r.root (or_old answer r)) runs-are are in
      let its = subst (λ (q : RepairedOf). AreCosts (where_run (runs_of view.levels).one (told_of view.one)) q.root (or_old answer q)) same here in
      let now = at-root _ f.levels.one.root (or_old answer f.levels.one) its (own_node view.system) root-one in
      record { root = now.root; graph = now.graph }

  pub after-two : (runs : Bool) → runs ≡ (runs_of lent.levels).two → (r : RepairedOf) → r ≡ f.levels.two → (answer : Option RepairedOf) → AreCosts (where_run runs (told_of view.two)) r.root (or_old answer r) → IsLevel (outlook_at view) level.Two (or_old answer f.levels.two)
  unfolding outlook_at
  after-two runs e r same answer are =
      let runs-are : runs ≡ (runs_of view.levels).two = e ∙ sym (ap (λ l. (runs_of l).two) v.levels) in
      let here = subst (λ (t : Bool). AreCosts (where_run t (told_of view.two)) r.root (or_old answer r)) runs-are are in
      let its = subst (λ (q : RepairedOf). AreCosts (where_run (runs_of view.levels).two (told_of view.two)) q.root (or_old answer q)) same here in
      let now = at-root _ f.levels.two.root (or_old answer f.levels.two) its (own_node view.system) root-two in
      record { root = now.root; graph = now.graph }

-- own prefixes stay where none are told
no-prefixes : {X : Type 0} (p : Option X) (A : Type 0) (B : X → Type 0) → p ≡ None → MatchOption p A B → A
no-prefixes None A B is m = m
no-prefixes (Some x) A B is m = absurd (let e : Some x ≡ None = is in cc)

pub prefixes-stay : (lent : Lent) (told : Told) (view : View) → AreViewed lent told view → told.prefixes ≡ None → (outlook_at view).prefixes ≡ (outlook_in lent).prefixes
unfolding outlook_at outlook_in
prefixes-stay lent told view v none = no-prefixes told.prefixes _ _ none v.prefixes

-- ---- the nodes that are told of

among-append : (xs : List NodeId) → AreAmong (xs ++ []) xs
among-append xs n is = subst (λ (l : List NodeId). is_among l n ≡ true) (append-nil xs) is

pub nodes-one : (told : Told) (m : Moved) → told.one ≡ Some m → told.two ≡ None → AreAmong (nodes_of told) m.nodes.now
nodes-one told m a b = subst (λ (l : List NodeId). AreAmong l m.nodes.now) (sym (λ i. nodes_in (a i) ++ nodes_in (b i))) (among-append m.nodes.now)

pub nodes-two : (told : Told) (m : Moved) → told.one ≡ None → told.two ≡ Some m → AreAmong (nodes_of told) m.nodes.now
nodes-two told m a b = subst (λ (l : List NodeId). AreAmong l m.nodes.now) (sym (λ i. nodes_in (a i) ++ nodes_in (b i))) (λ n is. is)

-- ---- one node

turned : (a b : ℕ) → (a == b) ≡ (b == a)
turned a b = grind (arith, nat_tests)

or-none : (t : Bool) → (t || false) ≡ t
or-none true = refl
or-none false = refl

alone : (node : NodeId) (n : ℕ) → is_among (node ∷ []) n ≡ (n == node_number node)
alone node n = or-none (node_number node == n) ∙ turned (node_number node) n

pub moved-alone : (node : NodeId) (list old new : List Pair) → told_beside node new ≡ told_beside node old → told_at node new ≡ list → RisesFrom 0 new → AreMovedTo (node ∷ []) list old new
moved-alone node list old new others here rises = record {
  others = by-same (is_beside (node ∷ [])) (λ n. not (n == node_number node)) (λ n. ap not (alone node n)) new ∙ others ∙ sym (by-same (is_beside (node ∷ [])) (λ n. not (n == node_number node)) (λ n. ap not (alone node n)) old);
  here = by-same (is_among (node ∷ [])) (λ n. n == node_number node) (alone node) new ∙ here;
  rises = rises;
}

-- ---- this is told: of one node, or own prefixes alone

match-none : {X : Type 0} (p : Option X) (A : Type 0) (B : X → Type 0) → p ≡ None → A → MatchOption p A B
match-none None A B is a = a
match-none (Some x) A B is a = absurd (let e : Some x ≡ None = is in cc)

pub told-one : (o p : Outlook) (l : Level) (node : NodeId) (list : List Pair) (told : Told) (m : Moved) → l ≡ level.One → IsMovedAt o p l node list → told.one ≡ Some m → told.two ≡ None → told.prefixes ≡ None → m.nodes.now ≡ node ∷ [] → told_in (entries_in m.aside) ≡ list → AreMoved o p told
told-one o p l node list told m at is a b d nodes aside =
    let here = subst (λ (k : Level). IsMovedAt o p k node list) at is in
    let moved : IsMovedBy (Some m) o.runs.one o.told.one p.told.one = (here.run, subst (λ (ns : List NodeId). AreMovedTo ns (told_in (entries_in m.aside)) o.told.one p.told.one) (sym nodes) (moved-alone node (told_in (entries_in m.aside)) o.told.one p.told.one here.others (here.here ∙ sym aside) here.rises)) in
    record {
      root = here.root;
      areas = here.areas;
      runs = here.runs;
      prefixes = match-none told.prefixes _ _ d here.prefixes;
      one = subst (λ (q : Option Moved). IsMovedBy q o.runs.one o.told.one p.told.one) (sym a) moved;
      two = subst (λ (q : Option Moved). IsMovedBy q o.runs.two o.told.two p.told.two) (sym b) here.other;
    }

pub told-two : (o p : Outlook) (l : Level) (node : NodeId) (list : List Pair) (told : Told) (m : Moved) → l ≡ level.Two → IsMovedAt o p l node list → told.one ≡ None → told.two ≡ Some m → told.prefixes ≡ None → m.nodes.now ≡ node ∷ [] → told_in (entries_in m.aside) ≡ list → AreMoved o p told
told-two o p l node list told m at is a b d nodes aside =
    let here = subst (λ (k : Level). IsMovedAt o p k node list) at is in
    let moved : IsMovedBy (Some m) o.runs.two o.told.two p.told.two = (here.run, subst (λ (ns : List NodeId). AreMovedTo ns (told_in (entries_in m.aside)) o.told.two p.told.two) (sym nodes) (moved-alone node (told_in (entries_in m.aside)) o.told.two p.told.two here.others (here.here ∙ sym aside) here.rises)) in
    record {
      root = here.root;
      areas = here.areas;
      runs = here.runs;
      prefixes = match-none told.prefixes _ _ d here.prefixes;
      one = subst (λ (q : Option Moved). IsMovedBy q o.runs.one o.told.one p.told.one) (sym a) here.other;
      two = subst (λ (q : Option Moved). IsMovedBy q o.runs.two o.told.two p.told.two) (sym b) moved;
    }
