-- Nodes in order, their LSPs aside, and what routes see of them then.
use Rattle.std.proofs.Common.{◌≡◌, ◌∙◌, ℕ, ◌+◌, ◌-◌, ◌%◌, ◌<◌, ◌≤◌, ◌==◌, ◌&&◌, nat_le, nat_lt, Bool, true, false, not, List, [], ◌∷◌, ◌++◌, map, filter, length, take, drop, get_or, Option, Some, None, refl, sym, ap, subst, arith, if◌then◌else◌, inl, inr}
use Rattle.std.specs.Prelude.{◌||◌}
use Rattle.std.specs.List.{AllByRecursion}
use Rattle.std.proofs.lemmas.Bool.{cases_eq, eq-eqb, eqb-true, ne_eqb}
use Rattle.std.proofs.lemmas.Bool.Decides.{nat_tests}
use Rattle.std.proofs.Math.Seq.{take-length}
use Rattle.isis_base.specs.declared.entry.LspEntry.{LspEntry}
use Rattle.isis_base.specs.declared.identifiers.LspId.{LspId}
use Rattle.isis_base.specs.declared.identifiers.NodeId.{NodeId}
use Rattle.isis_base.specs.declared.level.Level.{Level}
use Rattle.isis_base.specs.declared.level.Level.TheVariants as level
use Rattle.isis_base.specs.Identifiers.{IsId, lsp_number}
use Rattle.isis_base.specs.Keys.{rank}
use Rattle.lsp_store.specs.declared.entry.Entry.{Entry}
use Rattle.lsp_store.specs.Databases as store
use Rattle.lsp_store.specs.Maps as maps
use Rattle.lsp_store.specs.Maps.{pair_number}
use Rattle.lsp_store.proofs.MapLemmas.{find-above, rises-above}
use Rattle.lsp_view.specs.Views.{number_of}
use Rattle.flag_sync.specs.BookStates as sync
use Rattle.flag_sync.specs.BookStates.{BookState, cells_of}
use Rattle.flag_sync.specs.Heard.{entries_of, entry_of}
use Rattle.model_router.specs.Both.{at}
use Rattle.model_router.specs.Books.{Book, cell_at}
use Rattle.model_router.specs.Cells.{Cell}
use Rattle.model_router.specs.Deeds.{Content}
use Rattle.model_router.specs.Maps.{find}
use Rattle.model_router.specs.Ranks.{is_live}
use Rattle.model_router.specs.Routers.{LevelState, Router, book_of, level_of, with_level}
use Rattle.model_router.specs.Receiving.{scene_of}
use Rattle.model_router.specs.Sorted.{RisesFrom}
use Rattle.model_router.specs.Takes.{take_entries, take_entry}
use Rattle.router_sending.proofs.DraftLemmas.{id-again}
use Rattle.spf_tree.specs.Nodes.{node_number}
use Rattle.router_routes.proofs.LeakLemmas.{maps-same}
use Rattle.router_routes.specs.Moved.{AreMovedTo, NodesRise, beside, is_among, is_beside, told_by_nodes}
use Rattle.router_routes.specs.Outlooks.{outlook_of}
use Rattle.router_routes.specs.Told.{told, told_by, told_in}
use Rattle.router_core.specs.Asides.{AreNamed, AreSeven, IsHeldAside, IsCovered, IsNamed, IsShown, is_apart, node_of, put_all, seen, seen_in, with_node, with_parts}
use Rattle.router_core.specs.Givens.{given}
use Rattle.router_core.specs.Plans.{AreMovedIn}
use Rattle.router_core.proofs.AsideLemmas.{Entries, apart-same, named-cells, seen-cells}
use Rattle.lsp_view.proofs.NodeLemmas.{between-rises, find-between, first-is, put-found, split, within}
use Rattle.router_core.proofs.WantedLemmas.{opens}
use Rattle.router_core.proofs.RouteLemmas.{Said, live-by, live-find, live-rises, said-of, told-live, told-said}

clash : {A : Type 0} → true ≡ false → A
clash e = absurd (cc)

-- ---- one node more

pub with-rises : (least : ℕ) (nodes : List NodeId) (node : NodeId) → least ≤ node_number node → NodesRise least nodes → NodesRise least (with_node nodes node)
with-rises least [] node low rises = (low, tt)
with-rises least (m ∷ nodes) node low rises =
    by (node_number m == node_number node) refl (nat_lt (node_number node) (node_number m)) refl (λ more. with-rises (node_number m + 1) nodes node (omega (arith, more)) rises.1)
  where
    by : (a : Bool) → (node_number m == node_number node) ≡ a → (b : Bool) → nat_lt (node_number node) (node_number m) ≡ b → (node_number m < node_number node → NodesRise (node_number m + 1) (with_node nodes node))
        → NodesRise least (if a then m ∷ nodes else (if b then node ∷ m ∷ nodes else m ∷ with_node nodes node))
    by true p b q rest = rises
    by false p true q rest = let less : node_number node < node_number m = grind (arith, nat_tests, q) in (low, (omega (arith, less), rises.1))
    by false p false q rest = (rises.0, rest (grind (arith, nat_tests, p, q)))

pub with-among : (nodes : List NodeId) (node : NodeId) (n : ℕ) → is_among (with_node nodes node) n ≡ (node_number node == n || is_among nodes n)
with-among [] node n = refl
with-among (m ∷ nodes) node n = by (node_number m == node_number node) refl (nat_lt (node_number node) (node_number m)) (node_number m == n) (node_number node == n) refl refl (with-among nodes node n)
  where
    same-by : (x y : Bool) → x ≡ y → (x || is_among nodes n) ≡ (y || (x || is_among nodes n))
    same-by true true e = refl
    same-by true false e = clash e
    same-by false true e = clash (sym e)
    same-by false false e = refl

    turn : (x y z : Bool) → (x || (y || z)) ≡ (y || (x || z))
    turn true true z = refl
    turn true false z = refl
    turn false true z = refl
    turn false false z = refl

    by : (a : Bool) → (node_number m == node_number node) ≡ a → (b x y : Bool) → (node_number m == n) ≡ x → (node_number node == n) ≡ y → is_among (with_node nodes node) n ≡ (node_number node == n || is_among nodes n)
        → is_among (if a then m ∷ nodes else (if b then node ∷ m ∷ nodes else m ∷ with_node nodes node)) n ≡ (node_number node == n || (node_number m == n || is_among nodes n))
    by true p b x y q s rest = same-by (node_number m == n) (node_number node == n) (ap (λ (k : ℕ). k == n) (eqb-true (node_number m) (node_number node) p))
    by false p true x y q s rest = refl
    by false p false x y q s rest = ap (λ (t : Bool). node_number m == n || t) rest ∙ turn (node_number m == n) (node_number node == n) (is_among nodes n)

pub with-seven : (nodes : List NodeId) (node : NodeId) → IsId (record { node = node; number = 0 }) → AreSeven nodes → AreSeven (with_node nodes node)
with-seven [] node is seven = (is, tt)
with-seven (m ∷ nodes) node is seven = by (node_number m == node_number node) (nat_lt (node_number node) (node_number m)) (with-seven nodes node is seven.1)
  where
    by : (a b : Bool) → AreSeven (with_node nodes node) → AreSeven (if a then m ∷ nodes else (if b then node ∷ m ∷ nodes else m ∷ with_node nodes node))
    by true b rest = seven
    by false true rest = (is, seven)
    by false false rest = (seven.0, rest)

or-right : (x y : Bool) → y ≡ true → (x || y) ≡ true
or-right true y e = refl
or-right false y e = e

pub among-more : (nodes : List NodeId) (node : NodeId) (n : ℕ) → is_among nodes n ≡ true → is_among (with_node nodes node) n ≡ true
among-more nodes node n is = with-among nodes node n ∙ or-right (node_number node == n) (is_among nodes n) is

pub among-new : (nodes : List NodeId) (node : NodeId) → is_among (with_node nodes node) (node_number node) ≡ true
among-new nodes node = with-among nodes node (node_number node) ∙ ap (λ (t : Bool). t || is_among nodes (node_number node)) (eq-eqb (node_number node) (node_number node) refl)

-- ---- the LSPs of some nodes

abbrev pub or_else : Option Entry → Option Entry → Option Entry
or_else None o = o
or_else (Some e) o = Some e

find-all : (xs : Entries) (least : ℕ) (ys : Entries) (n : ℕ) → maps.RisesFrom least ys → maps.find (put_all xs ys) n ≡ or_else (maps.find ys n) (maps.find xs n)
find-all xs least [] n rises = refl
find-all xs least (y ∷ ys) n rises =
    find-all (maps.put xs y.0 y.1) (pair_number y + 1) ys n rises.1 ∙ ap (or_else (maps.find ys n)) (put-found xs y.0 y.1 n) ∙ by (pair_number y == n) refl
  where
    by : (t : Bool) → (pair_number y == n) ≡ t → or_else (maps.find ys n) (if t then Some y.1 else maps.find xs n) ≡ or_else (if t then Some y.1 else maps.find ys n) (maps.find xs n)
    by true is =
        let at : pair_number y ≡ n = eqb-true (pair_number y) n is in
        let none : maps.find ys n ≡ None = find-above n [] ys (rises-above n (pair_number y + 1) ys (omega (arith, at)) rises.1) in
        ap (λ (o : Option Entry). or_else o (Some y.1)) none
    by false is = refl

turned : (a b : ℕ) → (a == b) ≡ (b == a)
turned a b =
    elim (cases_eq a b) [
      | inl same ↦ eq-eqb a b same ∙ sym (eq-eqb b a (sym same))
      | inr other ↦ ne_eqb a b other ∙ sym (ne_eqb b a (λ e. other (sym e)))
    ]

-- the LSP IDs of a node are those between its first and its last
in-node : (node : NodeId) (n : ℕ) → IsId (record { node = node; number = 0 }) → (nat_le (number_of node 0) n && nat_le n (number_of node 255)) ≡ (node_number node == node_of n)
in-node node n is =
    let s = split (record { node = node; number = 0 }) is in
    let parts : n ≡ node_of n + n % 256 = omega arith in
    let whole : node_of n % 256 ≡ 0 = omega arith in
    let small : n % 256 < 256 = omega arith in
    rw (first-is node, s.last)
    (ap (λ (k : ℕ). nat_le (node_number node) k && nat_le k (node_number node + 255)) parts ∙ within (node_number node) (node_of n) (n % 256) s.whole whole small ∙ turned (node_of n) (node_number node))

pub parts-found : (held xs : Entries) (nodes : List NodeId) (n : ℕ) → maps.RisesFrom 0 held → AreSeven nodes → maps.find (with_parts held xs nodes) n ≡ (if is_among nodes (node_of n) then or_else (maps.find held n) (maps.find xs n) else maps.find xs n)
parts-found held xs [] n rises seven = refl
parts-found held xs (m ∷ nodes) n rises seven =
    let part = maps.between (number_of m 0) (number_of m 255) held in
    let one : maps.find (put_all xs part) n ≡ or_else (if node_number m == node_of n then maps.find held n else None) (maps.find xs n) =
    find-all xs 0 part n (between-rises (number_of m 0) (number_of m 255) 0 held rises)
    ∙ ap (λ (o : Option Entry). or_else o (maps.find xs n)) (find-between (number_of m 0) (number_of m 255) held n ∙ ap (λ (t : Bool). if t then maps.find held n else None) (in-node m n seven.0)) in
    parts-found held (put_all xs part) nodes n rises seven.1
    ∙ ap (λ (o : Option Entry). if is_among nodes (node_of n) then or_else (maps.find held n) o else o) one
    ∙ by (node_number m == node_of n) (is_among nodes (node_of n)) (maps.find held n) (maps.find xs n)
  where
    by : (a b : Bool) (h o : Option Entry) → (if b then or_else h (or_else (if a then h else None) o) else or_else (if a then h else None) o) ≡ (if a || b then or_else h o else o)
    by true true None o = refl
    by true true (Some e) o = refl
    by true false h o = refl
    by false true h o = refl
    by false false h o = refl

pub or-none : (o : Option Entry) → or_else o None ≡ o
or-none None = refl
or-none (Some e) = refl

pub start-aside : (r : Router) (l : Level) (nodes : List NodeId) (held : Entries) → IsShown r l held → AreSeven nodes → IsHeldAside r l nodes (level_of r l) (with_parts held [] nodes)
start-aside r l nodes held is seven = record {
  sees = λ n. by n (is_among nodes (node_of n)) refl;
  within = λ n off. parts-found held [] nodes n is.rises seven ∙ ap (λ (t : Bool). if t then or_else (maps.find held n) None else None) off;
  own = λ n live. refl;
  named = is.named;
  sorted = is.sorted;
}
  where
    by : (n : ℕ) (t : Bool) → is_among nodes (node_of n) ≡ t → seen (cell_at (book_of r l) n) ≡ (if t then seen_in (maps.find (with_parts held [] nodes) n) else seen (cell_at (book_of r l) n))
    by n true in' = is.shows n ∙ ap seen_in (sym (parts-found held [] nodes n is.rises seven ∙ ap (λ (t : Bool). if t then or_else (maps.find held n) None else None) in' ∙ or-none (maps.find held n)))
    by n false out = refl

pub shown-in : (r : Router) (l : Level) (v : BookState) → sync.book_of v ≡ book_of r l → length v.rows ≡ length v.store.entries → AllByRecursion (λ (p : LspId × Entry). IsId p.0) v.store.entries → maps.RisesFrom 0 v.store.entries → RisesFrom 0 (book_of r l).cells → IsShown r l v.store.entries
shown-in r l v of_book long ids rises sorted =
    let cells : (book_of r l).cells ≡ cells_of v.store.entries v.rows = ap (λ (b : Book). b.cells) (sym of_book) in
    record {
      shows = λ n. ap (λ (m : List (ℕ × Cell)). seen (find m n)) cells ∙ seen-cells v.store.entries v.rows n long;
      named = subst AreNamed (sym cells) (named-cells v.store.entries v.rows ids);
      sorted = sorted;
      rises = rises;
    }

pub all-covered : (r : Router) (l : Level) (nodes : List NodeId) (held : Entries) (es : List LspEntry) → IsShown r l held → AllByRecursion (λ (e : LspEntry). is_apart (maps.find held (lsp_number e.id)) e ≡ true → is_among nodes (node_number e.id.node) ≡ true) es → AllByRecursion (IsCovered r l nodes) es
all-covered r l nodes held [] is all = tt
all-covered r l nodes held (e ∷ es) is all =
    ((λ d. all.0 (sym (apart-same (cell_at (book_of r l) (lsp_number e.id)) (maps.find held (lsp_number e.id)) e (is.shows (lsp_number e.id))) ∙ d)), all-covered r l nodes held es is all.1)

-- ---- the entries that are left

-- an entry that is apart of what is held is of one of these nodes
abbrev pub IsMet : Entries → List NodeId → LspEntry → Type 0
IsMet held nodes e = is_apart (maps.find held (lsp_number e.id)) e ≡ true → is_among nodes (node_number e.id.node) ≡ true

pub none-met : (held : Entries) (nodes : List NodeId) (left : List LspEntry) → length left < 1 → AllByRecursion (IsMet held nodes) left
none-met held nodes [] few = tt
none-met held nodes (e ∷ left) few = absurd (omega (arith, few))

zero-small : (xs : List ℕ) (p k : ℕ) → AllByRecursion (λ octet. octet < 256) ((xs ++ p ∷ []) ++ k ∷ []) → AllByRecursion (λ octet. octet < 256) ((xs ++ p ∷ []) ++ 0 ∷ [])
zero-small [] p k all = (all.0, (omega arith, tt))
zero-small (x ∷ xs) p k all = (all.0, zero-small xs p k all.1)

pub node-of-id : (id : LspId) → IsId id → IsId (record { node = id.node; number = 0 })
node-of-id id is = record { six = is.six; small = zero-small id.node.system.0 id.node.pseudonode id.number is.small }

-- these are the nodes of all entries but those that are left
pub record Gathered (held : Entries) (entries left : List LspEntry) (nodes : List NodeId) : Type 0 where
  pub rises : NodesRise 0 nodes
  pub ids : AreSeven nodes
  pub covered : (more : List NodeId) → ((n : ℕ) → is_among nodes n ≡ true → is_among more n ≡ true) → AllByRecursion (IsMet held more) left → AllByRecursion (IsMet held more) entries

pub gathered-node : (held : Entries) (entries left : List LspEntry) (d : LspEntry) (old lent new : List NodeId) → 1 ≤ length left → IsId (get_or left 0 d).id → new ≡ with_node lent (get_or left 0 d).id.node → lent ≡ old → Gathered held entries left old → Gathered held entries (take (length left - 1) (drop 1 left)) new
gathered-node held entries left d old lent new full is made slice g =
    let e = get_or left 0 d in
    let same : new ≡ with_node old e.id.node = made ∙ ap (λ (ns : List NodeId). with_node ns e.id.node) slice in
    let opened = opens left d full in
    record {
      rises = subst (NodesRise 0) (sym same) (with-rises 0 old e.id.node (omega arith) g.rises);
      ids = subst AreSeven (sym same) (with-seven old e.id.node (node-of-id e.id is) g.ids);
      covered = λ more wider all.
          g.covered more (λ n among. wider n (ap (λ (ns : List NodeId). is_among ns n) same ∙ among-more old e.id.node n among))
          (subst (AllByRecursion (IsMet held more)) (sym opened) ((λ apart. wider (node_number e.id.node) (ap (λ (ns : List NodeId). is_among ns (node_number e.id.node)) same ∙ among-new old e.id.node)), all));
    }

pub gathered-same : (held : Entries) (entries left : List LspEntry) (d : LspEntry) (nodes : List NodeId) → 1 ≤ length left → is_apart (maps.find held (lsp_number (get_or left 0 d).id)) (get_or left 0 d) ≡ false → Gathered held entries left nodes → Gathered held entries (take (length left - 1) (drop 1 left)) nodes
gathered-same held entries left d nodes full off g =
    let opened = opens left d full in
    record {
      rises = g.rises;
      ids = g.ids;
      covered = λ more wider all. g.covered more wider (subst (AllByRecursion (IsMet held more)) (sym opened) ((λ apart. clash (sym apart ∙ off)), all));
    }

-- a level whose LSPs of these nodes are aside, which the entries that are left bring where all bring the first one
pub record Comes (r : Router) (l : Level) (entries left : List LspEntry) (now : Entries) (nodes : List NodeId) (place : ℕ) (s : LevelState) : Type 0 where
  pub state : LevelState
  pub aside : IsHeldAside r l nodes state now
  pub covered : AllByRecursion (IsCovered r l nodes) left
  pub same : take_entries (scene_of given r l) state r.config.system place (entries_of left) ≡ take_entries (scene_of given r l) s r.config.system place (entries_of entries)

abbrev pub Come : Router → Level → List LspEntry → List LspEntry → Entries → Entries → Type 0
Come r l entries left start now =
    (nodes : List NodeId) (place : ℕ) (s : LevelState) → AllByRecursion (IsCovered r l nodes) entries → IsHeldAside r l nodes s start → Comes r l entries left now nodes place s

pub come-first : (r : Router) (l : Level) (entries : List LspEntry) (start : Entries) → Come r l entries entries start start
come-first r l entries start nodes place s covered aside = record { state = s; aside = aside; covered = covered; same = refl }

pub come-turn : (r : Router) (l : Level) (entries left : List LspEntry) (d : LspEntry) (start old new : Entries) → 1 ≤ length left
    → ((nodes : List NodeId) (place : ℕ) (s : LevelState) → IsCovered r l nodes (get_or left 0 d) → IsHeldAside r l nodes s old → IsHeldAside r l nodes (take_entry (scene_of given r l) s r.config.system place (entry_of (get_or left 0 d))) new)
    → Come r l entries left start old → Come r l entries (take (length left - 1) (drop 1 left)) start new
come-turn r l entries left d start old new full step come nodes place s covered aside =
    let opened = opens left d full in
    let c = come nodes place s covered aside in
    let all = subst (AllByRecursion (IsCovered r l nodes)) opened c.covered in
    record {
      state = take_entry (scene_of given r l) c.state r.config.system place (entry_of (get_or left 0 d));
      aside = step nodes place c.state all.0 c.aside;
      covered = all.1;
      same = ap (λ (es : List LspEntry). take_entries (scene_of given r l) c.state r.config.system place (entries_of es)) (sym opened) ∙ c.same;
    }

pub come-end : (r : Router) (l : Level) (entries left : List LspEntry) (start now : Entries) → length left < 1 → Come r l entries left start now
    → (nodes : List NodeId) (place : ℕ) (s : LevelState) → AllByRecursion (IsCovered r l nodes) entries → IsHeldAside r l nodes s start → IsHeldAside r l nodes (take_entries (scene_of given r l) s r.config.system place (entries_of entries)) now
come-end r l entries [] start now few come nodes place s covered aside = let c = come nodes place s covered aside in subst (λ (q : LevelState). IsHeldAside r l nodes q now) c.same c.aside
come-end r l entries (e ∷ left) start now few come nodes place s covered aside = absurd (omega (arith, few))

pub rest-all : {A : Type 0} (P : A → Type 0) (left : List A) → AllByRecursion P left → AllByRecursion P (take (length left - 1) (drop 1 left))
rest-all P [] all = tt
rest-all {A} P (x ∷ xs) all =
    let less : length (x ∷ xs) - 1 ≡ length xs = omega arith in
    subst (AllByRecursion P) (sym (ap (λ (n : ℕ). take n xs) less ∙ take-length xs)) all.1

-- ---- what routes see of it

abbrev live-in : Entries → List (ℕ × Said)
live-in [] = []
live-in (p ∷ es) = if store.is_live p.1 then (pair_number p, (p.1.flags, p.1.octets)) ∷ live-in es else live-in es

told-live_in : (es : Entries) → AllByRecursion (λ (p : LspId × Entry). IsId p.0) es → told_in es ≡ map told-said (live-in es)
told-live_in [] ids = refl
told-live_in (p ∷ es) ids = by (store.is_live p.1) refl (told-live_in es ids.1)
  where
    by : (t : Bool) → store.is_live p.1 ≡ t → told_in es ≡ map told-said (live-in es) → told_in (p ∷ es) ≡ map told-said (live-in (p ∷ es))
    by true is rest = let again = id-again p.0 ids.0 in rw is (λ i. (sym again i, told p.1.flags p.1.octets) ∷ rest i)
    by false is rest = rw is rest

live_in-rises : (es : Entries) (least : ℕ) → maps.RisesFrom least es → RisesFrom least (live-in es)
live_in-rises [] least rises = tt
live_in-rises (p ∷ es) least rises = by (store.is_live p.1) (live_in-rises es (pair_number p + 1) rises.1)
  where
    less : (m : List (ℕ × Said)) (a b : ℕ) → b ≤ a → RisesFrom a m → RisesFrom b m
    less [] a b h r = tt
    less (q ∷ m) a b h r = let first = r.0 in (omega (arith, h, first), r.1)

    by : (t : Bool) → RisesFrom (pair_number p + 1) (live-in es) → RisesFrom least (if t then (pair_number p, (p.1.flags, p.1.octets)) ∷ live-in es else live-in es)
    by true rest = (rises.0, rest)
    by false rest = let first = rises.0 in less (live-in es) (pair_number p + 1) least (omega (arith, first)) rest

abbrev said-in : Option Entry → Option Said
said-in None = None
said-in (Some e) = if store.is_live e then Some (e.flags, e.octets) else None

live_in-find : (es : Entries) (least n : ℕ) → maps.RisesFrom least es → find (live-in es) n ≡ said-in (maps.find es n)
live_in-find [] least n rises = refl
live_in-find (p ∷ es) least n rises = by (store.is_live p.1) refl (pair_number p == n) refl (live_in-find es (pair_number p + 1) n rises.1)
  where
    by : (t : Bool) → store.is_live p.1 ≡ t → (a : Bool) → (pair_number p == n) ≡ a → find (live-in es) n ≡ said-in (maps.find es n) → find (live-in (p ∷ es)) n ≡ said-in (maps.find (p ∷ es) n)
    by true is true at rest = rw (is, at, is) refl
    by true is false at rest = rw (is, at) rest
    by false is true at rest =
        let here : pair_number p ≡ n = eqb-true (pair_number p) n at in
        let none : maps.find es n ≡ None = find-above n [] es (rises-above n (pair_number p + 1) es (omega (arith, here)) rises.1) in
        rw (is, at, is) (rest ∙ ap said-in none)
    by false is false at rest = rw (is, at) rest

-- what is said of what is seen
abbrev pub said-by : Option (ℕ × Content) → Option Said
said-by None = None
said-by (Some x) = Some (x.1.flags, x.1.octets)

pub said-seen : (o : Option Cell) → said-of o ≡ said-by (seen o)
said-seen None = refl
said-seen (Some c) = by (is_live c.rank)
  where
    by : (t : Bool) → (if t then Some (c.flags, c.octets) else None) ≡ said-by (if t then Some (c.rank, record { checksum = c.checksum; flags = c.flags; octets = c.octets }) else None)
    by true = refl
    by false = refl

said_in-seen : (o : Option Entry) → said-in o ≡ said-by (seen_in o)
said_in-seen None = refl
said_in-seen (Some e) = by (store.is_live e)
  where
    by : (t : Bool) → (if t then Some (e.flags, e.octets) else None) ≡ said-by (if t then Some (rank e.key, record { checksum = e.checksum; flags = e.flags; octets = e.octets }) else None)
    by true = refl
    by false = refl

-- those of some nodes
abbrev those : (ℕ → Bool) → List (ℕ × Said) → List (ℕ × Said)
those c m = filter (λ (p : ℕ × Said). c (node_of p.0)) m

live-names : (m : List (ℕ × Cell)) → AreNamed m → AllByRecursion (λ (p : ℕ × Said). IsNamed p.0) (live-by m)
live-names [] ms = tt
live-names (p ∷ m) ms = by (is_live p.1.rank) (live-names m ms.1)
  where
    by : (t : Bool) → AllByRecursion (λ (p : ℕ × Said). IsNamed p.0) (live-by m) → AllByRecursion (λ (p : ℕ × Said). IsNamed p.0) (if t then (p.0, (p.1.flags, p.1.octets)) ∷ live-by m else live-by m)
    by true rest = (ms.0, rest)
    by false rest = rest

nodes-those : (c : ℕ → Bool) (m : List (ℕ × Said)) → AllByRecursion (λ (p : ℕ × Said). IsNamed p.0) m → told_by_nodes c (map told-said m) ≡ map told-said (those c m)
nodes-those c [] ms = refl
nodes-those c (p ∷ m) ms = ap (λ (k : ℕ). if c k then told-said p ∷ told_by_nodes c (map told-said m) else told_by_nodes c (map told-said m)) ms.0.node ∙ by (c (node_of p.0)) (nodes-those c m ms.1)
  where
    by : (t : Bool) → told_by_nodes c (map told-said m) ≡ map told-said (those c m) → (if t then told-said p ∷ told_by_nodes c (map told-said m) else told_by_nodes c (map told-said m)) ≡ map told-said (if t then p ∷ those c m else those c m)
    by true rest = ap (λ (q : Entries). told-said p ∷ q) rest
    by false rest = rest

those-rise : (c : ℕ → Bool) (least : ℕ) (m : List (ℕ × Said)) → RisesFrom least m → RisesFrom least (those c m)
those-rise c least [] rises = tt
those-rise c least (p ∷ m) rises = by (c (node_of p.0)) (those-rise c (p.0 + 1) m rises.1)
  where
    less : (m : List (ℕ × Said)) (a b : ℕ) → b ≤ a → RisesFrom a m → RisesFrom b m
    less [] a b h r = tt
    less (q ∷ m) a b h r = let first = r.0 in (omega (arith, h, first), r.1)

    by : (t : Bool) → RisesFrom (p.0 + 1) (those c m) → RisesFrom least (if t then p ∷ those c m else those c m)
    by true rest = (rises.0, rest)
    by false rest = let first = rises.0 in less (those c m) (p.0 + 1) least (omega (arith, first)) rest

those-found : (c : ℕ → Bool) (m : List (ℕ × Said)) (n : ℕ) → find (those c m) n ≡ (if c (node_of n) then find m n else None)
those-found c [] n = by (c (node_of n))
  where
    by : (t : Bool) → ◌≡◌ {A = Option Said} None (if t then None else None)
    by true = refl
    by false = refl
those-found c (p ∷ m) n = by (c (node_of p.0)) refl (p.0 == n) refl (c (node_of n)) refl (those-found c m n)
  where
    test-at : (p.0 == n) ≡ true → c (node_of p.0) ≡ c (node_of n)
    test-at is = ap (λ (k : ℕ). c (node_of k)) (eqb-true p.0 n is)

    by : (t : Bool) → c (node_of p.0) ≡ t → (a : Bool) → (p.0 == n) ≡ a → (u : Bool) → c (node_of n) ≡ u
        → find (those c m) n ≡ (if c (node_of n) then find m n else None)
        → find (if t then p ∷ those c m else those c m) n ≡ (if u then (if a then Some p.1 else find m n) else None)
    by true k true q true s rest = ap (λ (b : Bool). if b then Some p.1 else find (those c m) n) q
    by true k true q false s rest = clash (sym k ∙ test-at q ∙ s)
    by true k false q u s rest = ap (λ (b : Bool). if b then Some p.1 else find (those c m) n) q ∙ rest ∙ ap (λ (b : Bool). if b then find m n else None) s
    by false k true q true s rest = clash (sym s ∙ sym (test-at q) ∙ k)
    by false k true q false s rest = rest ∙ ap (λ (b : Bool). if b then find m n else None) s
    by false k false q u s rest = rest ∙ ap (λ (b : Bool). if b then find m n else None) s

told-rise : (least : ℕ) (m : List (ℕ × Said)) → AllByRecursion (λ (p : ℕ × Said). IsNamed p.0) m → RisesFrom least m → maps.RisesFrom least (map told-said m)
told-rise least [] ms rises = tt
told-rise least (p ∷ m) ms rises =
    (subst (λ (k : ℕ). least ≤ k) (sym ms.0.again) rises.0, subst (λ (k : ℕ). maps.RisesFrom (k + 1) (map told-said m)) (sym ms.0.again) (told-rise (p.0 + 1) m ms.1 rises.1))

module _ (r : Router) (l : Level) (nodes : List NodeId) (s : LevelState) (xs held : Entries) (aside : IsHeldAside r l nodes s xs) (shown : IsShown r l held) (ids : AllByRecursion (λ (p : LspId × Entry). IsId p.0) xs) (rises : maps.RisesFrom 0 xs) where
  abbrev old : List (ℕ × Cell)
  old = (book_of r l).cells

  abbrev new : List (ℕ × Cell)
  new = s.book.cells

  here-at : (n : ℕ) (t : Bool) → is_among nodes (node_of n) ≡ t → (if t then find (live-by new) n else None) ≡ find (live-in xs) n
  here-at n true in' =
      live-find new 0 n aside.sorted ∙ said-seen (find new n) ∙ ap said-by (aside.sees n ∙ ap (λ (t : Bool). if t then seen_in (maps.find xs n) else seen (cell_at (book_of r l) n)) in')
      ∙ sym (said_in-seen (maps.find xs n)) ∙ sym (live_in-find xs 0 n rises)
  here-at n false out = sym (live_in-find xs 0 n rises ∙ ap said-in (aside.within n out))

  others-at : (n : ℕ) (t : Bool) → is_among nodes (node_of n) ≡ t → (if not t then find (live-by new) n else None) ≡ (if not t then find (live-by old) n else None)
  others-at n true in' = refl
  others-at n false out =
      live-find new 0 n aside.sorted ∙ said-seen (find new n) ∙ ap said-by (aside.sees n ∙ ap (λ (t : Bool). if t then seen_in (maps.find xs n) else seen (cell_at (book_of r l) n)) out)
      ∙ sym (said-seen (find old n)) ∙ sym (live-find old 0 n shown.sorted)

  here-same : those (is_among nodes) (live-by new) ≡ live-in xs
  here-same =
      maps-same 0 (those (is_among nodes) (live-by new)) (live-in xs) (those-rise (is_among nodes) 0 (live-by new) (live-rises new 0 aside.sorted)) (live_in-rises xs 0 rises)
      (λ n. those-found (is_among nodes) (live-by new) n ∙ here-at n (is_among nodes (node_of n)) refl)

  others-same : those (is_beside nodes) (live-by new) ≡ those (is_beside nodes) (live-by old)
  others-same =
      maps-same 0 (those (is_beside nodes) (live-by new)) (those (is_beside nodes) (live-by old)) (those-rise (is_beside nodes) 0 (live-by new) (live-rises new 0 aside.sorted)) (those-rise (is_beside nodes) 0 (live-by old) (live-rises old 0 shown.sorted))
      (λ n. those-found (is_beside nodes) (live-by new) n ∙ others-at n (is_among nodes (node_of n)) refl ∙ sym (those-found (is_beside nodes) (live-by old) n))

  pub aside-moved : AreMovedTo nodes (told_in xs) (told_by (book_of r l).cells) (told_by s.book.cells)
  aside-moved = record {
    others =
        ap (told_by_nodes (is_beside nodes)) (told-live new) ∙ nodes-those (is_beside nodes) (live-by new) (live-names new aside.named) ∙ ap (map told-said) others-same
        ∙ sym (ap (told_by_nodes (is_beside nodes)) (told-live old) ∙ nodes-those (is_beside nodes) (live-by old) (live-names old shown.named));
    here = ap (told_by_nodes (is_among nodes)) (told-live new) ∙ nodes-those (is_among nodes) (live-by new) (live-names new aside.named) ∙ ap (map told-said) here-same ∙ sym (told-live_in xs ids);
    rises = subst (maps.RisesFrom 0) (sym (told-live new)) (told-rise 0 (live-by new) (live-names new aside.named) (live-rises new 0 aside.sorted));
  }

-- ---- what routes look at

pub level-config : (r : Router) (l : Level) (s : LevelState) → (with_level r l s).config ≡ r.config
level-config r level.One s = refl
level-config r level.Two s = refl

pub level-other : (r : Router) (l : Level) (s : LevelState) → book_of (with_level r l s) (beside l) ≡ book_of r (beside l)
level-other r level.One s = refl
level-other r level.Two s = refl

pub moved-in : (r : Router) (l : Level) (s : LevelState) (nodes : List NodeId) (told : Entries) → at r.config.runs l ≡ true → NodesRise 0 nodes → AreMovedTo nodes told (told_by (book_of r l).cells) (told_by s.book.cells) → AreMovedIn (outlook_of r) (outlook_of (with_level r l s)) l nodes told
unfolding outlook_of
moved-in r level.One s nodes told runs each moved = record {
  root = refl;
  areas = refl;
  runs = refl;
  prefixes = refl;
  run = runs;
  other = refl;
  each = each;
  moved = rw runs moved;
}
moved-in r level.Two s nodes told runs each moved = record {
  root = refl;
  areas = refl;
  runs = refl;
  prefixes = refl;
  run = runs;
  other = refl;
  each = each;
  moved = rw runs moved;
}
