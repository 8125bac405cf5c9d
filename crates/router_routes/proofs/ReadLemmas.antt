-- Rows and overloaded nodes, where the LSPs of some nodes are read elsewhere.
use Rattle.std.proofs.Common.{◌≡◌, ◌∙◌, ℕ, ◌+◌, Bool, true, false, not, List, [], ◌∷◌, ◌++◌, filter, Some, refl, sym, ap, subst, arith, if◌then◌else◌, ◌&&◌, ◌||◌, ◌==◌}
use Rattle.std.proofs.lemmas.Bool.{eq-eqb, eqb-true}
use Rattle.std.proofs.lemmas.List.Folds.{list_any-append}
use Rattle.isis_base.specs.declared.identifiers.NodeId.{NodeId}
use Rattle.isis_base.specs.declared.identifiers.LspId.{LspId}
use Rattle.lsp_store.specs.declared.entry.Entry.{Entry}
use Rattle.spf_tree.specs.declared.row.Row.{Row}
use Rattle.spf_tree.specs.Nodes.{node_number}
use Rattle.spf_tree.specs.Walks.{start, end}
use Rattle.spf_tree.specs.Graphs.{GraphOf, AreUsable, is_usable, is_overloaded, leads, times}
use Rattle.lsp_view.specs.Views.{rows_in, overloaded_in}
use Rattle.router_routes.specs.declared.told.Moved.{Moved}
use Rattle.router_routes.specs.declared.view.LevelView.{LevelView}
use Rattle.router_routes.specs.Told.{told_in}
use Rattle.router_routes.specs.Moved.{FitMoved, IsFit, IsReadable, told_after, told_moved, told_of, HaveIds, is_among, is_beside, told_at, told_by_nodes}
use Rattle.router_routes.specs.Near.{rows_from}
use Rattle.router_routes.proofs.ToldLemmas.{overloaded-told, rows-told}
use Rattle.router_routes.proofs.MovedLemmas.{told-ids, told-rises}
use Rattle.router_routes.proofs.AfterLemmas.{after-among, after-beside, after-ids}
use Rattle.router_routes.proofs.NodeLemmas.{rows-by, overloaded-by}
use Rattle.router_routes.proofs.GraphLemmas.{kept-times}
use Rattle.lsp_view.specs.Lsps.{entries_in}
use Rattle.router_routes.proofs.NearGraphLemmas.{leads-same, times-append}

abbrev Pair : Type 0
Pair = LspId × Entry

-- ---- of one node

module _ (node : NodeId) (a b : List Pair) (same : told_at node a ≡ told_at node b) where
  pub rows-same : HaveIds a → HaveIds b → rows_from (node_number node) (rows_in a) ≡ rows_from (node_number node) (rows_in b)
  rows-same a-ids b-ids = rows-by (λ m. m == node_number node) a a-ids ∙ ap rows_in same ∙ sym (rows-by (λ m. m == node_number node) b b-ids)

  pub over-same : is_overloaded (overloaded_in a) (node_number node) ≡ is_overloaded (overloaded_in b) (node_number node)
  over-same =
      let kept : (node_number node == node_number node) ≡ true = eq-eqb (node_number node) (node_number node) refl in
      overloaded-by (λ m. m == node_number node) (node_number node) kept a ∙ ap (λ (l : List Pair). is_overloaded (overloaded_in l) (node_number node)) same ∙ sym (overloaded-by (λ m. m == node_number node) (node_number node) kept b)

-- ---- of some nodes and all others

abbrev pub starting : (ℕ → Bool) → List Row → List Row
starting c rows = filter (λ (row : Row). c (start row)) rows

abbrev pub nodes-by : (ℕ → Bool) → List NodeId → List NodeId
nodes-by c nodes = filter (λ (node : NodeId). c (node_number node)) nodes

two-times : (t : Bool) (k l : ℕ) → (t ≡ true → l ≡ k) → (if not t then k else 0) + (if t then l else 0) ≡ (if t then l else k)
two-times true k l f = omega arith
two-times false k l f = omega arith

parts-times : (t : Bool) (k : ℕ) → (if not t then k else 0) + (if t then k else 0) ≡ k
parts-times true k = omega arith
parts-times false k = omega arith

over-step : (c : ℕ → Bool) (n : ℕ) (node : NodeId) (nodes : List NodeId) → is_overloaded (nodes-by c nodes) n ≡ (c n && is_overloaded nodes n) → (t u : Bool) → c (node_number node) ≡ t → (node_number node == n) ≡ u
    → is_overloaded (if t then node ∷ nodes-by c nodes else nodes-by c nodes) n ≡ (c n && (u || is_overloaded nodes n))
over-step c n node nodes rest true true is same =
    let its : c n ≡ true = ap c (sym (eqb-true (node_number node) n same)) ∙ is in
    rw (same, its) refl
over-step c n node nodes rest true false is same = rw same rest
over-step c n node nodes rest false true is same =
    let its : c n ≡ false = ap c (sym (eqb-true (node_number node) n same)) ∙ is in
    rest ∙ ap (λ (t : Bool). t && is_overloaded nodes n) its ∙ sym (ap (λ (t : Bool). t && (true || is_overloaded nodes n)) its)
over-step c n node nodes rest false false is same = rest

and-none : (t : Bool) → (t && false) ≡ false
and-none true = refl
and-none false = refl

over-by : (c : ℕ → Bool) (n : ℕ) (nodes : List NodeId) → is_overloaded (nodes-by c nodes) n ≡ (c n && is_overloaded nodes n)
over-by c n [] = sym (and-none (c n))
over-by c n (node ∷ nodes) = over-step c n node nodes (over-by c n nodes) (c (node_number node)) (node_number node == n) refl refl

over-which : (t : Bool) (a b x : Bool) → (t ≡ false → a ≡ x) → (t ≡ true → b ≡ x) → ((not t && a) || (t && b)) ≡ x
over-which true a b x f g = g refl
over-which false a b x f g = or-none a ∙ f refl
  where
    or-none : (t : Bool) → (t || false) ≡ t
    or-none true = refl
    or-none false = refl

module _ (nodes : List NodeId) (old here new : List Pair) (old-ids : HaveIds old) (here-ids : HaveIds here) (new-ids : HaveIds new) (others : told_by_nodes (is_beside nodes) new ≡ told_by_nodes (is_beside nodes) old) (its : told_by_nodes (is_among nodes) new ≡ told_by_nodes (is_among nodes) here) where
  pub rows-parts : (x : Row) → times (starting (is_beside nodes) (rows_in old) ++ starting (is_among nodes) (rows_in here)) x ≡ times (rows_in new) x
  rows-parts x =
      let a = rows-by (is_beside nodes) old old-ids ∙ sym (ap rows_in others) ∙ sym (rows-by (is_beside nodes) new new-ids) in
      let b = rows-by (is_among nodes) here here-ids ∙ sym (ap rows_in its) ∙ sym (rows-by (is_among nodes) new new-ids) in
      ap (λ (l : List Row). times (l ++ starting (is_among nodes) (rows_in here)) x) a ∙ ap (λ (l : List Row). times (starting (is_beside nodes) (rows_in new) ++ l) x) b
      ∙ times-append x (starting (is_beside nodes) (rows_in new)) (starting (is_among nodes) (rows_in new))
      ∙ ap (λ (k : ℕ). k + times (starting (is_among nodes) (rows_in new)) x) (kept-times (λ s e m. is_beside nodes s) (rows_in new) x)
      ∙ ap (λ (k : ℕ). (if is_beside nodes (start x) then times (rows_in new) x else 0) + k) (kept-times (λ s e m. is_among nodes s) (rows_in new) x)
      ∙ parts-times (is_among nodes (start x)) (times (rows_in new) x)

  pub over-parts : (n : ℕ) → is_overloaded (nodes-by (is_beside nodes) (overloaded_in old) ++ nodes-by (is_among nodes) (overloaded_in here)) n ≡ is_overloaded (overloaded_in new) n
  over-parts n =
      list_any-append (λ (o : NodeId). node_number o == n) (nodes-by (is_beside nodes) (overloaded_in old)) (nodes-by (is_among nodes) (overloaded_in here))
      ∙ ap (λ (t : Bool). t || is_overloaded (nodes-by (is_among nodes) (overloaded_in here)) n) (over-by (is_beside nodes) n (overloaded_in old))
      ∙ ap (λ (t : Bool). (is_beside nodes n && is_overloaded (overloaded_in old) n) || t) (over-by (is_among nodes) n (overloaded_in here))
      ∙ over-which (is_among nodes n) (is_overloaded (overloaded_in old) n) (is_overloaded (overloaded_in here) n) (is_overloaded (overloaded_in new) n)
      (λ is. overloaded-by (is_beside nodes) n (ap not is) old ∙ sym (ap (λ (l : List Pair). is_overloaded (overloaded_in l) n) others) ∙ sym (overloaded-by (is_beside nodes) n (ap not is) new))
      (λ is. overloaded-by (is_among nodes) n is here ∙ sym (ap (λ (l : List Pair). is_overloaded (overloaded_in l) n) its) ∙ sym (overloaded-by (is_among nodes) n is new))

-- ---- rows as often, and nodes that are overloaded alike

pub usable-alike : (xs ys : List Row) (ns ms : List NodeId) (root : NodeId) (g : GraphOf) → ((x : Row) → times xs x ≡ times ys x) → ((n : ℕ) → is_overloaded ns n ≡ is_overloaded ms n) → AreUsable xs ns root g → AreUsable ys ms root g
usable-alike xs ys ns ms root g rows over is = record {
  from = is.from;
  rows_are = λ row.
      is.rows_are row
      ∙ ap (λ (k : ℕ). if is_usable xs ns (node_number root) (start row) (end row) row.metric then k else 0) (rows row)
      ∙ ap (λ (t : Bool). if not (row.metric == 16777215) && (t && (start row == node_number root || not (is_overloaded ns (start row)))) then times ys row else 0) (leads-same xs ys (end row) (start row) (λ r a b. rows r))
      ∙ ap (λ (t : Bool). if not (row.metric == 16777215) && (leads ys (end row) (start row) && (start row == node_number root || not t)) then times ys row else 0) (over (start row));
}

-- ---- of a level, where some nodes are read elsewhere

module _ (level : LevelView) (moved : Moved) (is : level.moved ≡ Some moved) (fit : IsFit level) where
  fits : IsReadable level.store.now.entries moved
  fits = subst (FitMoved level.store.now.entries) is fit

  ids : HaveIds (told_in level.store.now.entries)
  ids = told-ids level.store.now.entries fits.ids

  aside-ids : HaveIds (told_in (entries_in moved.aside))
  aside-ids = told-ids (entries_in moved.aside) fits.aside.ids

  all-ids : HaveIds (told_after moved.nodes.now (told_in level.store.now.entries) (told_in (entries_in moved.aside)))
  all-ids = after-ids moved.nodes.now (told_in level.store.now.entries) (told_in (entries_in moved.aside)) ids aside-ids

  others : told_by_nodes (is_beside moved.nodes.now) (told_after moved.nodes.now (told_in level.store.now.entries) (told_in (entries_in moved.aside))) ≡ told_by_nodes (is_beside moved.nodes.now) (told_in level.store.now.entries)
  others = after-beside moved.nodes.now (told_in level.store.now.entries) (told_in (entries_in moved.aside)) ids aside-ids (told-rises 0 level.store.now.entries fits.rises)

  its : told_by_nodes (is_among moved.nodes.now) (told_after moved.nodes.now (told_in level.store.now.entries) (told_in (entries_in moved.aside))) ≡ told_by_nodes (is_among moved.nodes.now) (told_in (entries_in moved.aside))
  its = after-among moved.nodes.now (told_in level.store.now.entries) (told_in (entries_in moved.aside)) ids aside-ids (told-rises 0 (entries_in moved.aside) fits.aside.rises)

  whole : told_after moved.nodes.now (told_in level.store.now.entries) (told_in (entries_in moved.aside)) ≡ told_of level
  whole = sym (ap (told_moved (told_in level.store.now.entries)) is)

  pub level-rows : (old here list next : List Row) → old ≡ rows_in level.store.now.entries → here ≡ rows_in (entries_in moved.aside) → list ≡ [] ++ starting (is_beside moved.nodes.now) old → next ≡ list ++ starting (is_among moved.nodes.now) here → (x : Row) → times next x ≡ times (rows_in (told_of level)) x
  level-rows old here list next a b d e x =
      ap (λ (l : List Row). times l x)
      (e ∙ ap (λ (l : List Row). l ++ starting (is_among moved.nodes.now) here) d
      ∙ ap (λ (l : List Row). starting (is_beside moved.nodes.now) l ++ starting (is_among moved.nodes.now) here) (a ∙ sym (rows-told level.store.now.entries fits.rises))
      ∙ ap (λ (l : List Row). starting (is_beside moved.nodes.now) (rows_in (told_in level.store.now.entries)) ++ starting (is_among moved.nodes.now) l) (b ∙ sym (rows-told (entries_in moved.aside) fits.aside.rises)))
      ∙ rows-parts moved.nodes.now (told_in level.store.now.entries) (told_in (entries_in moved.aside)) _ ids aside-ids all-ids others its x
      ∙ ap (λ (l : List Pair). times (rows_in l) x) whole

  pub level-over : (old here list next : List NodeId) → old ≡ overloaded_in level.store.now.entries → here ≡ overloaded_in (entries_in moved.aside) → list ≡ [] ++ nodes-by (is_beside moved.nodes.now) old → next ≡ list ++ nodes-by (is_among moved.nodes.now) here → (n : ℕ) → is_overloaded next n ≡ is_overloaded (overloaded_in (told_of level)) n
  level-over old here list next a b d e n =
      ap (λ (l : List NodeId). is_overloaded l n)
      (e ∙ ap (λ (l : List NodeId). l ++ nodes-by (is_among moved.nodes.now) here) d
      ∙ ap (λ (l : List NodeId). nodes-by (is_beside moved.nodes.now) l ++ nodes-by (is_among moved.nodes.now) here) (a ∙ sym (overloaded-told level.store.now.entries fits.rises))
      ∙ ap (λ (l : List NodeId). nodes-by (is_beside moved.nodes.now) (overloaded_in (told_in level.store.now.entries)) ++ nodes-by (is_among moved.nodes.now) l) (b ∙ sym (overloaded-told (entries_in moved.aside) fits.aside.rises)))
      ∙ over-parts moved.nodes.now (told_in level.store.now.entries) (told_in (entries_in moved.aside)) _ ids aside-ids all-ids others its n
      ∙ ap (λ (l : List Pair). is_overloaded (overloaded_in l) n) whole
