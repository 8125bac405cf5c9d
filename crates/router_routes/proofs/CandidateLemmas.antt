-- Candidates as they are put together.
use Rattle.std.proofs.Common.{◌≡◌, ◌∙◌, ℕ, Bool, true, false, List, [], ◌∷◌, ◌++◌, map, Option, Some, refl, sym, ap, subst, ◌&&◌, append-nil, ◌⊎◌, inl, inr}
use Rattle.std.specs.List.{flat_map}
use Rattle.isis_base.specs.declared.identifiers.SystemId.{SystemId}
use Rattle.isis_base.specs.declared.identifiers.NodeId.{NodeId}
use Rattle.isis_base.specs.declared.identifiers.LspId.{LspId}
use Rattle.isis_base.specs.declared.level.Level.{Level}
use Rattle.isis_base.specs.declared.level.Level.TheVariants as level
use Rattle.isis_base.specs.declared.level.LevelSet.{LevelSet}
use Rattle.isis_base.specs.declared.level.LevelSet.TheVariants as levels
use Rattle.isis_base.specs.declared.prefix.Prefix.{Prefix}
use Rattle.isis_base.proofs.PrefixValues.{prefix_from-prefix}
use Rattle.model_router.specs.Both.{runs_of}
use Rattle.lsp_store.specs.declared.entry.Entry.{Entry}
use Rattle.lsp_view.specs.Views.{own_node, lead_of, areas_at, reach_in}
use Rattle.route_leaking.specs.Attachment.{is_attached}
use Rattle.route_table.specs.declared.candidate.Candidate.{Candidate}
use Rattle.router_routes.specs.declared.lent.Lent.{Lent}
use Rattle.router_routes.specs.declared.view.View.{View}
use Rattle.router_routes.specs.Moved.{told_of, outlook_at}
use Rattle.spf_repair.specs.Changes.{RepairedOf}
use Rattle.router_routes.specs.Following.{IsLevel}
use Rattle.router_routes.proofs.GraphLemmas.{IsGraphOf}
use Rattle.router_routes.specs.Told.{told_in}
use Rattle.router_routes.specs.Outlooks.{where_run, outlook_in}
use Rattle.router_routes.specs.Candidates.{reached_in, system_ways, level_ways, ways_of, attached_of, has_bit, default_by, default_of}

abbrev Told : Type 0
Told = List (LspId × Entry)

-- ---- a level that isn't run tells nothing

told-where-run : (level : Level) (runs : Bool) (told : Told) (root : NodeId) (systems : List (SystemId × ℕ)) → systems ≡ reached_in (where_run runs told) root → flat_map (system_ways level told) systems ≡ level_ways level (where_run runs told) root
unfolding level_ways reached_in
told-where-run level true told root systems same = ap (flat_map (system_ways level told)) same
told-where-run level false told root systems same = ap (flat_map (system_ways level told)) same

-- ---- all of them

two : {X : Type 0} (l m n a b : List X) → l ≡ [] → m ≡ l ++ a → n ≡ m ++ b → n ≡ a ++ b
two l m n a b e f g = g ∙ ap (λ (x : List _). x ++ b) (f ∙ ap (λ (x : List _). x ++ a) e)

module _ (view : View) (ones twos : List (SystemId × ℕ)) (is-one : ones ≡ reached_in (outlook_at view).told.one (outlook_at view).root) (is-two : twos ≡ reached_in (outlook_at view).told.two (outlook_at view).root) where
  pub told-are : (l m n : List Candidate) → l ≡ [] → m ≡ l ++ flat_map (system_ways level.One (told_of view.one)) ones → n ≡ m ++ flat_map (system_ways level.Two (told_of view.two)) twos → n ≡ ways_of (outlook_at view)
  unfolding outlook_at ways_of
  told-are l m n e f g =
      let one = told-where-run level.One (runs_of view.levels).one (told_of view.one) (own_node view.system) ones is-one in
      let other = told-where-run level.Two (runs_of view.levels).two (told_of view.two) (own_node view.system) twos is-two in
      two l m n _ _ e (f ∙ ap (λ (x : List Candidate). l ++ x) one) (g ∙ ap (λ (x : List Candidate). m ++ x) other)

-- nodes of a level that isn't run tell nothing
no-told : (level : Level) (systems : List (SystemId × ℕ)) → flat_map (system_ways level []) systems ≡ []
unfolding reach_in
no-told level.One [] = refl
no-told level.One (s ∷ systems) = no-told level.One systems
no-told level.Two [] = refl
no-told level.Two (s ∷ systems) = no-told level.Two systems

pub level-none-told : (level : Level) (runs : Bool) (told : Told) (systems : List (SystemId × ℕ)) (list : List Candidate) → runs ≡ false → list ≡ list ++ flat_map (system_ways level (where_run runs told)) systems
level-none-told level true told systems list is = absurd (let e : true ≡ false = is in cc)
level-none-told level false told systems list is = sym (append-nil list) ∙ ap (λ (x : List Candidate). list ++ x) (sym (no-told level systems))

-- ---- the way by default

pub default-none : (told : Told) (system : SystemId × ℕ) → has_bit told system ≡ false → default_of told system ≡ []
default-none told system has = rw has refl

pub default-one : (told : Told) (system : SystemId × ℕ) (prefix : Prefix) → has_bit told system ≡ true → prefix.address ≡ 0 → prefix.length ≡ 0 → default_of told system ≡ default_by (Some prefix) system
default-one told system prefix has address length = rw has (ap (λ (p : Option Prefix). default_by p system) (prefix_from-prefix prefix 0 0 address length))

-- ---- attached

abbrev areas-by : Told → SystemId × ℕ → List (List ℕ)
areas-by told system = areas_at (lead_of told (own_node system.0))

attached-with : (one two attached : Bool) (told : Told) (root : NodeId) (areas : List (List ℕ)) (twos : List (SystemId × ℕ)) → one ≡ true → two ≡ true → twos ≡ reached_in (where_run two told) root → attached ≡ is_attached areas (map (areas-by told) twos)
    → attached ≡ ((one && two) && is_attached areas (map (areas-by (where_run two told)) (reached_in (where_run two told) root)))
attached-with true true attached told root areas twos e f is same = same ∙ ap (λ (ts : List (SystemId × ℕ)). is_attached areas (map (areas-by told) ts)) is
attached-with true false attached told root areas twos e f is same = absurd (let g : false ≡ true = f in cc)
attached-with false two attached told root areas twos e f is same = absurd (let g : false ≡ true = e in cc)

pub attached-both : (view : View) (twos : List (SystemId × ℕ)) (attached : Bool) → view.levels ≡ levels.Both → twos ≡ reached_in (outlook_at view).told.two (outlook_at view).root
    → attached ≡ is_attached view.areas.now (map (areas-by (told_of view.two)) twos) → attached ≡ attached_of (outlook_at view)
unfolding outlook_at attached_of
attached-both view twos attached both is same =
    attached-with (runs_of view.levels).one (runs_of view.levels).two attached (told_of view.two) (own_node view.system) view.areas.now twos (ap (λ (l : LevelSet). (runs_of l).one) both) (ap (λ (l : LevelSet). (runs_of l).two) both) is same

pub attached-one : (view : View) → (view.levels ≡ levels.One) ⊎ (view.levels ≡ levels.Two) → false ≡ attached_of (outlook_at view)
unfolding outlook_at attached_of
attached-one view (inl one) = rw one refl
attached-one view (inr two) = rw two refl

-- ---- what is asked of the parts

module _ (view : View) where
  pub graph-one : (repaired : RepairedOf) (runs : Bool) → IsLevel (outlook_at view) level.One repaired → runs ≡ (runs_of view.levels).one → IsGraphOf (where_run runs (told_of view.one)) repaired.root repaired.graph
  unfolding outlook_at
  graph-one repaired runs is e =
      subst (λ (r : Bool). IsGraphOf (where_run r (told_of view.one)) repaired.root repaired.graph) (sym e)
      (subst (λ (n : NodeId). IsGraphOf (where_run (runs_of view.levels).one (told_of view.one)) n repaired.graph) (sym is.root) is.graph)

  pub graph-two : (repaired : RepairedOf) (runs : Bool) → IsLevel (outlook_at view) level.Two repaired → runs ≡ (runs_of view.levels).two → IsGraphOf (where_run runs (told_of view.two)) repaired.root repaired.graph
  unfolding outlook_at
  graph-two repaired runs is e =
      subst (λ (r : Bool). IsGraphOf (where_run r (told_of view.two)) repaired.root repaired.graph) (sym e)
      (subst (λ (n : NodeId). IsGraphOf (where_run (runs_of view.levels).two (told_of view.two)) n repaired.graph) (sym is.root) is.graph)

  pub reached-one : (repaired : RepairedOf) (runs : Bool) (list : List (SystemId × ℕ)) → IsLevel (outlook_at view) level.One repaired → runs ≡ (runs_of view.levels).one → list ≡ reached_in (where_run runs (told_of view.one)) repaired.root
      → list ≡ reached_in (outlook_at view).told.one (outlook_at view).root
  unfolding outlook_at
  reached-one repaired runs list is e same = same ∙ ap (λ (r : Bool). reached_in (where_run r (told_of view.one)) repaired.root) e ∙ ap (reached_in (where_run (runs_of view.levels).one (told_of view.one))) is.root

  pub reached-two : (repaired : RepairedOf) (runs : Bool) (list : List (SystemId × ℕ)) → IsLevel (outlook_at view) level.Two repaired → runs ≡ (runs_of view.levels).two → list ≡ reached_in (where_run runs (told_of view.two)) repaired.root
      → list ≡ reached_in (outlook_at view).told.two (outlook_at view).root
  unfolding outlook_at
  reached-two repaired runs list is e same = same ∙ ap (λ (r : Bool). reached_in (where_run r (told_of view.two)) repaired.root) e ∙ ap (reached_in (where_run (runs_of view.levels).two (told_of view.two))) is.root

module _ (lent : Lent) where
  pub lent-graph-one : (repaired : RepairedOf) (runs : Bool) → IsLevel (outlook_in lent) level.One repaired → runs ≡ (runs_of lent.levels).one → IsGraphOf (where_run runs (told_in lent.one.now.entries)) repaired.root repaired.graph
  unfolding outlook_in
  lent-graph-one repaired runs is e =
      subst (λ (r : Bool). IsGraphOf (where_run r (told_in lent.one.now.entries)) repaired.root repaired.graph) (sym e)
      (subst (λ (n : NodeId). IsGraphOf (where_run (runs_of lent.levels).one (told_in lent.one.now.entries)) n repaired.graph) (sym is.root) is.graph)

  pub lent-graph-two : (repaired : RepairedOf) (runs : Bool) → IsLevel (outlook_in lent) level.Two repaired → runs ≡ (runs_of lent.levels).two → IsGraphOf (where_run runs (told_in lent.two.now.entries)) repaired.root repaired.graph
  unfolding outlook_in
  lent-graph-two repaired runs is e =
      subst (λ (r : Bool). IsGraphOf (where_run r (told_in lent.two.now.entries)) repaired.root repaired.graph) (sym e)
      (subst (λ (n : NodeId). IsGraphOf (where_run (runs_of lent.levels).two (told_in lent.two.now.entries)) n repaired.graph) (sym is.root) is.graph)

  pub level-one : (repaired : RepairedOf) (root : NodeId) (runs : Bool) → runs ≡ (runs_of lent.levels).one → root ≡ own_node lent.system → repaired.root ≡ root → IsGraphOf (where_run runs (told_in lent.one.now.entries)) root repaired.graph → IsLevel (outlook_in lent) level.One repaired
  unfolding outlook_in
  level-one repaired root runs e at-root same is = record {
    root = same ∙ at-root;
    graph =
        subst (λ (n : NodeId). IsGraphOf (where_run (runs_of lent.levels).one (told_in lent.one.now.entries)) n repaired.graph) at-root
        (subst (λ (r : Bool). IsGraphOf (where_run r (told_in lent.one.now.entries)) root repaired.graph) e is);
  }

  pub level-two : (repaired : RepairedOf) (root : NodeId) (runs : Bool) → runs ≡ (runs_of lent.levels).two → root ≡ own_node lent.system → repaired.root ≡ root → IsGraphOf (where_run runs (told_in lent.two.now.entries)) root repaired.graph → IsLevel (outlook_in lent) level.Two repaired
  unfolding outlook_in
  level-two repaired root runs e at-root same is = record {
    root = same ∙ at-root;
    graph =
        subst (λ (n : NodeId). IsGraphOf (where_run (runs_of lent.levels).two (told_in lent.two.now.entries)) n repaired.graph) at-root
        (subst (λ (r : Bool). IsGraphOf (where_run r (told_in lent.two.now.entries)) root repaired.graph) e is);
  }
