-- The alternates for the targets among some nodes, while those for one node more are added.
use Rattle.std.proofs.Common.{◌≡◌, ◌≢◌, ◌∙◌, ℕ, zero, suc, ◌+◌, ◌-◌, ◌<◌, ◌≤◌, nat_lt, true, List, [], ◌∷◌, ◌++◌, Bool, false, length, map, take, get_or, slice_get, Some, inl, inr, refl, sym, ap, subst, arith}
use Rattle.std.specs.List.{All, AllPairs, Contains}
use Rattle.std.specs.List.Sorted.{IsStrictlyIncreasing}
use Rattle.std.proofs.lemmas.Bool.Decides.{nat_tests}
use Rattle.std.proofs.lemmas.List.{map-append, take_more, take_all, get_or_append_left, get_or-append_right, get_or-map, get_or-take, get_or_default, length-take-le, length-append, length-map, append_assoc, append-nil}
use Rattle.std.proofs.lemmas.List.Elements.{All-contains, All-push, Contains-get_or, Contains-append_left, Contains-append_right, Contains-append_cases, Contains-push, Contains-push_cases}
use Rattle.std.proofs.lemmas.List.Kept.{AllPairs-from_increasing}
use Rattle.spf_tree.specs.declared.row.Row.{Row}
use Rattle.spf_tree.specs.Graphs.{GraphOf}
use Rattle.spf_tree.specs.Nodes.{is_system, node_number}
use Rattle.spf_tree.specs.Walks.{end, IsWalk}
use Rattle.spf_tree.specs.NextHops.{IsNextHop, first_system}
use Rattle.alternates.specs.Alternates.{AreAlternates}
use Rattle.capture_text.specs.declared.backup.Backup.{Backup}
use Rattle.capture_text.specs.Backups.{target_of, hop_of, IsBefore, IsBackup, HasBackup, AreBackups}
use Rattle.capture_text.specs.SoFar.{AreSoFar, IsFor, AreAdded}

-- ---- next hops

-- a target with a next hop is the end of a row, and not the root
pub row-to : (rows : List Row) (root target hop : ℕ) → IsNextHop rows root target hop → (row : Row) × Contains rows row × (end row ≡ target) × (target ≢ root)
row-to rows root target hop next = by next.0 next.1.is next.2
  where
    by : (walk : List Row) → IsWalk rows root walk target → first_system walk ≡ Some hop → (row : Row) × Contains rows row × (end row ≡ target) × (target ≢ root)
    by [] is first = absurd (cc)
    by (row ∷ walk) is first = (row, is.0, is.1, is.2)

-- ---- lists in order

-- one list behind another keeps the order where all of the one stand before all of the other
pub pairs-append : {X : Type 0} (R : X → X → Type 0) (xs ys : List X) → AllPairs R xs → AllPairs R ys → ((x y : X) → Contains xs x → Contains ys y → R x y) → AllPairs R (xs ++ ys)
pairs-append R xs ys first second across = λ i j d less within. by i j d less within (nat_lt i (length xs)) refl (nat_lt j (length xs)) refl
  where
    by : (i j : ℕ) (d : _) → i < j → j < length (xs ++ ys) → (b : Bool) → nat_lt i (length xs) ≡ b → (t : Bool) → nat_lt j (length xs) ≡ t → R (get_or (xs ++ ys) i d) (get_or (xs ++ ys) j d)
    by i j d less within b in_i true in_j =
        let l : j < length xs = grind (arith, nat_tests, in_j) in
        let k : i < length xs = omega (arith, less, l) in
        subst (λ x. R x (get_or (xs ++ ys) j d)) (sym (get_or_append_left xs ys d i k))
        (subst (λ y. R (get_or xs i d) y) (sym (get_or_append_left xs ys d j l)) (first i j d less l))
    by i j d less within true in_i false in_j =
        let k : i < length xs = grind (arith, nat_tests, in_i) in
        let past : length xs ≤ j = grind (arith, nat_tests, in_j) in
        let l : j - length xs < length ys = omega (arith, within, length-append xs ys, past) in
        subst (λ x. R x (get_or (xs ++ ys) j d)) (sym (get_or_append_left xs ys d i k))
        (subst (λ y. R (get_or xs i d) y) (sym (get_or-append_right xs ys (length xs) j d refl past)) (across _ _ (Contains-get_or xs i d k) (Contains-get_or ys (j - length xs) d l)))
    by i j d less within false in_i false in_j =
        let k : length xs ≤ i = grind (arith, nat_tests, in_i) in
        let past : length xs ≤ j = grind (arith, nat_tests, in_j) in
        let l : j - length xs < length ys = omega (arith, within, length-append xs ys, past) in
        let m : i - length xs < j - length xs = omega (arith, less, k) in
        subst (λ x. R x (get_or (xs ++ ys) j d)) (sym (get_or-append_right xs ys (length xs) i d refl k))
        (subst (λ y. R (get_or ys (i - length xs) d) y) (sym (get_or-append_right xs ys (length xs) j d refl past)) (second _ _ d m l))

-- what a mapped list has comes of something
pub of-mapped : {X : Type 0} (f : X → ℕ) (xs : List X) (n : ℕ) → Contains (map f xs) n → (x : X) × Contains xs x × (f x ≡ n)
of-mapped f [] n has = absurd (omega (arith, has.1))
of-mapped f (x ∷ xs) n (zero, within, at) = (x, (zero, omega arith, refl), at)
of-mapped f (x ∷ xs) n (suc k, within, at) =
    let found = of-mapped f xs n (k, omega (arith, within), at) in
    (found.0, Contains-append_right (x ∷ []) xs found.0 found.1, found.2)

-- and what a list has, its mapped one has mapped
pub into-mapped : {X : Type 0} (f : X → ℕ) (xs : List X) (x : X) → Contains xs x → Contains (map f xs) (f x)
into-mapped f xs x has =
    (has.0, omega (arith, has.1, length-map xs f), get_or-map f xs has.0 x (f x) has.1 ∙ ap f has.2)

-- backups for one target whose hops rise are in order
rising-order : (target : ℕ) (graph : GraphOf) (added : List Backup) → All (IsFor graph target) added → IsStrictlyIncreasing (map hop_of added) → AllPairs IsBefore added
rising-order target graph added each up i j d less within =
    let l : i < length added = omega (arith, less, within) in
    let pairs = AllPairs-from_increasing (map hop_of added) up i j 0 less (omega (arith, within, length-map added hop_of)) in
    let one = (each i d l).target_is in
    let other = (each j d within).target_is in
    inr (one ∙ sym other, subst (λ n. n < hop_of (get_or added j d)) (get_or-map hop_of added i d 0 l) (subst (λ n. get_or (map hop_of added) i 0 < n) (get_or-map hop_of added j d 0 within) pairs))

-- ---- the hops of a target

-- a hop at a place
pub got : (hops : List ℕ) (place hop : ℕ) → slice_get hops place ≡ Some hop → (place < length hops) × (get_or hops place 0 ≡ hop)
got [] place hop e = absurd (cc)
got (h ∷ hops) zero hop e = (omega arith, cc)
got (h ∷ hops) (suc place) hop e = let found = got hops place hop e in (omega (arith, found.0), found.1)

-- no hop yet
pub none-added : (graph : GraphOf) (target : ℕ) (hops : List ℕ) (old : List Backup) → AreAdded graph target (take 0 hops) old old
none-added graph target hops old = record {
  added = [];
  grown = sym (append-nil old);
  hops_are = refl;
  each = λ k d within. absurd (omega (arith, within));
}

-- a hop more
pub hop-more : (graph : GraphOf) (target : ℕ) (hops : List ℕ) (place : ℕ) (old list new : List Backup) (backup : Backup) → place < length hops
    → hop_of backup ≡ get_or hops place 0 → IsFor graph target backup → new ≡ list ++ backup ∷ [] → AreAdded graph target (take place hops) old list → AreAdded graph target (take (place + 1) hops) old new
hop-more graph target hops place old list new backup within hop_is is grown so_far = record {
  added = so_far.added ++ backup ∷ [];
  grown = grown ∙ ap (λ (xs : List Backup). xs ++ backup ∷ []) so_far.grown ∙ append_assoc old so_far.added (backup ∷ []);
  hops_are = map-append hop_of so_far.added (backup ∷ [])
      ∙ ap (λ (xs : List ℕ). xs ++ hop_of backup ∷ []) so_far.hops_are
      ∙ ap (λ (n : ℕ). take place hops ++ n ∷ []) hop_is
      ∙ sym (take_more hops place 0 within);
  each = All-push (IsFor graph target) so_far.added backup so_far.each is;
}

-- all hops
pub all-added : (graph : GraphOf) (target : ℕ) (hops : List ℕ) (place : ℕ) (old list : List Backup) → length hops ≤ place → AreAdded graph target (take place hops) old list → AreAdded graph target hops old list
all-added graph target hops place old list past so_far =
    subst (λ hs. AreAdded graph target hs old list) (take_all place hops past) so_far

-- ---- one node more

-- a node that isn't another system that is reached adds nothing
pub none-more : (graph : GraphOf) (nodes : List ℕ) (node : ℕ) (list : List Backup) → ((hop : ℕ) → is_system node ≡ true → IsNextHop graph.rows (node_number graph.root) node hop → ⊥) → AreSoFar graph nodes list → AreSoFar graph (nodes ++ node ∷ []) list
none-more graph nodes node list none so_far = record {
  order = so_far.order;
  each = λ backup has. let e = so_far.each backup has in (e.0, Contains-append_left nodes (node ∷ []) (target_of backup) e.1);
  all = λ target hop has system next.
      elim (Contains-push_cases nodes node target has) [
        | inl before ↦ so_far.all target hop before system next
        | inr same ↦ absurd (none hop (subst (λ n. is_system n ≡ true) (sym same) system) (subst (λ n. IsNextHop graph.rows (node_number graph.root) n hop) (sym same) next))
      ];
}

-- those for a node and its next hops are added behind those for lesser nodes
pub target-more : (graph : GraphOf) (nodes : List ℕ) (node : ℕ) (hops : List ℕ) (old new : List Backup) → node_number graph.root ≢ node → IsStrictlyIncreasing hops
    → ((hop : ℕ) → Contains hops hop → IsNextHop graph.rows (node_number graph.root) node hop)
    → ((hop : ℕ) → IsNextHop graph.rows (node_number graph.root) node hop → Contains hops hop)
    → AreAdded graph node hops old new → AreSoFar graph nodes old → All (λ before. before < node) nodes → AreSoFar graph (nodes ++ node ∷ []) new
target-more graph nodes node hops old new other up from into more so_far below =
    subst (AreSoFar graph (nodes ++ node ∷ [])) (sym more.grown) (record {
      order = pairs-append IsBefore old added so_far.order (rising-order node graph added more.each (subst IsStrictlyIncreasing (sym more.hops_are) up)) across;
      each = λ backup has.
          elim (Contains-append_cases old added backup has) [
            | inl before ↦ let e = so_far.each backup before in (e.0, Contains-append_left nodes (node ∷ []) (target_of backup) e.1)
            | inr now ↦ (is backup now, subst (Contains (nodes ++ node ∷ [])) (sym (for backup now).target_is) (Contains-push nodes node))
          ];
      all = λ target hop has system next.
          elim (Contains-push_cases nodes node target has) [
            | inl before ↦ let b = so_far.all target hop before system next in (b.0, Contains-append_left old added b.0 b.1, b.2, b.3)
            | inr same ↦ there target hop same (into hop (subst (λ n. IsNextHop graph.rows (node_number graph.root) n hop) (sym same) next))
          ];
    })
  where
    added : List Backup
    added = more.added

    for : (backup : Backup) → Contains more.added backup → IsFor graph node backup
    for backup has = All-contains (IsFor graph node) more.added backup more.each has

    across : (one later : Backup) → Contains old one → Contains more.added later → IsBefore one later
    across one later before now =
        inl (subst (λ n. target_of one < n) (sym (for later now).target_is) (All-contains (λ before. before < node) nodes (target_of one) below (so_far.each one before).1))

    hop-is : (backup : Backup) → Contains more.added backup → Contains hops (hop_of backup)
    hop-is backup has = subst (λ hs. Contains hs (hop_of backup)) more.hops_are (into-mapped hop_of more.added backup has)

    is : (backup : Backup) → Contains more.added backup → IsBackup graph.rows (node_number graph.root) backup
    is backup has =
        let f = for backup has in
        let at = sym f.target_is in
        record {
          other = λ e. other (sym (sym f.target_is ∙ e));
          hop = subst (λ n. IsNextHop graph.rows (node_number graph.root) n (hop_of backup)) at (from (hop_of backup) (hop-is backup has));
          list = subst (λ n. AreAlternates graph.rows (node_number graph.root) n (hop_of backup) backup.alternates.items) at f.list;
        }

    there : (target hop : ℕ) → node ≡ target → Contains hops hop → HasBackup (old ++ more.added) target hop
    there target hop same has =
        let found = of-mapped hop_of more.added hop (subst (λ hs. Contains hs hop) (sym more.hops_are) has) in
        (found.0, Contains-append_right old more.added found.0 found.1, (for found.0 found.1).target_is ∙ same, found.2)

-- ---- all nodes

-- no node yet
pub none-yet : (graph : GraphOf) (nodes : List ℕ) → AreSoFar graph (take 0 nodes) []
none-yet graph nodes = record {
  order = λ i j d less within. absurd (omega (arith, within));
  each = λ backup has. absurd (omega (arith, has.1));
  all = λ target hop has system next. absurd (omega (arith, has.1));
}

-- the nodes before a place of nodes in order are less than the one there
pub all-below : (nodes : List ℕ) (place : ℕ) → IsStrictlyIncreasing nodes → place < length nodes → All (λ before. before < get_or nodes place 0) (take place nodes)
all-below nodes place up within k d less =
    let short = length-take-le place nodes (omega (arith, within)) in
    let l : k < place = omega (arith, less, short) in
    subst (λ n. n < get_or nodes place 0) (sym (get_or-take place nodes k d l ∙ get_or_default nodes k d 0 (omega (arith, l, within)))) (AllPairs-from_increasing nodes up k place 0 l within)

-- those of all nodes, among which is the end of each row, are those of all targets
pub all-backups : (graph : GraphOf) (nodes : List ℕ) (list : List Backup) → ((row : Row) → Contains graph.rows row → Contains nodes (end row)) → AreSoFar graph nodes list → AreBackups graph.rows (node_number graph.root) list
all-backups graph nodes list ends so_far = record {
  order = so_far.order;
  each = λ backup has. (so_far.each backup has).0;
  all = λ target hop system next.
      let row = row-to graph.rows (node_number graph.root) target hop next in
      so_far.all target hop (subst (λ n. Contains nodes n) row.2 (ends row.0 row.1)) system next;
}
