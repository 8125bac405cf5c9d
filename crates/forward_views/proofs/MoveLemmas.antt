-- Why the cost falls along a move.
use Rattle.std.proofs.Common.{◌≡◌, ◌≢◌, ◌∙◌, ℕ, ◌+◌, ◌≤◌, ◌==◌, ◌&&◌, ◌||◌, Bool, true, false, not, if◌then◌else◌, List, [], ◌∷◌, ◌++◌, Option, Some, None, is_some, refl, sym, ap, subst, arith, ◌⊎◌, inl, inr}
use Rattle.std.specs.List.{Contains, filter}
use Rattle.std.proofs.lemmas.Bool.{cases_Bool, cases_eq, and_parts, or_cases, eqb-true}
use Rattle.isis_base.specs.declared.identifiers.NodeId.{NodeId}
use Rattle.spf_tree.specs.declared.row.Row.{Row}
use Rattle.spf_tree.specs.Nodes.{is_system}
use Rattle.spf_tree.specs.Walks.{start, end, IsWalk, cost}
use Rattle.spf_tree.specs.Graphs.{leads, is_overloaded, is_usable}
use Rattle.spf_tree.specs.NextHops.{first_system, IsNextHop}
use Rattle.spf_tree.proofs.SearchLemmas.{contains_first, contains_rest, contains_cases, contains_none}
use Rattle.forward_views.specs.Moves.{usable_from, IsDirect, IsMoveCost, Falls}

-- ---- ways, which may come back to where they began

abbrev pub IsWay : List Row → ℕ → List Row → ℕ → Type 0
IsWay rows from [] to = to ≡ from
IsWay rows from (row ∷ way) to = Contains rows row × (end row ≡ to) × IsWay rows from way (start row)

way_of : (rows : List Row) (from : ℕ) (walk : List Row) (to : ℕ) → IsWalk rows from walk to → IsWay rows from walk to
way_of rows from [] to is = is
way_of rows from (row ∷ walk) to is = (is.0, is.1, way_of rows from walk (start row) is.3)

abbrev pub Cheaper : List Row → ℕ → ℕ → ℕ → Type 0
Cheaper rows from to most = (walk : List Row) × IsWalk rows from walk to × (cost walk ≤ most)

walk_of : (rows : List Row) (from : ℕ) (way : List Row) (to : ℕ) → IsWay rows from way to → Cheaper rows from to (cost way)
walk_of rows from [] to is = ([], is, omega arith)
walk_of rows from (row ∷ way) to is =
    elim (cases_eq to from) [
      | inl back ↦ ([], back, omega arith)
      | inr on ↦
          let w = walk_of rows from way (start row) is.2 in
          let cheap = w.2 in
          (row ∷ w.0, (is.0, is.1, on, w.1), omega arith)
    ]

join : (rows : List Row) (from node to : ℕ) (first later : List Row) → IsWay rows from first node → IsWay rows node later to → IsWay rows from (later ++ first) to
join rows from node to first [] a b = subst (λ (n : ℕ). IsWay rows from first n) (sym b) a
join rows from node to first (row ∷ later) a b = (b.0, b.1, join rows from node (start row) first later a b.2)

cost_joined : (later first : List Row) → cost (later ++ first) ≡ cost later + cost first
cost_joined [] first = omega arith
cost_joined (row ∷ later) first = let e = cost_joined later first in omega arith

-- ---- a walk split at the first system after its root

-- a way none of whose rows starts at the root
abbrev pub IsAway : List Row → ℕ → Type 0
IsAway [] root = Unit {0}
IsAway (row ∷ way) root = (start row ≢ root) × IsAway way root

pub record Parts (rows : List Row) (root hop node all : ℕ) : Type 0 where
  pub first : List Row
  pub later : List Row
  pub led : IsWalk rows root first hop
  pub direct : IsDirect first root hop
  pub goes_on : IsWay rows hop later node
  pub away : IsAway later root
  pub sum : cost first + cost later ≡ all
  pub system : is_system hop ≡ true
  pub other : hop ≢ root

none_parts : (o : Option ℕ) (b : Bool) (n : ℕ) → (if is_some o then o else (if b then Some n else None)) ≡ None → (o ≡ None) × (b ≡ false)
none_parts None true n h = cc
none_parts None false n h = (refl, refl)
none_parts (Some k) b n h = cc

some_n : (a b : ℕ) → Some a ≡ Some b → a ≡ b
some_n a b h = ap (λ (o : Option ℕ). elim o [ None ↦ a | Some v ↦ v ]) h

some_parts : (o : Option ℕ) (b : Bool) (n hop : ℕ) → (if is_some o then o else (if b then Some n else None)) ≡ Some hop → (o ≡ Some hop) ⊎ ((o ≡ None) × (b ≡ true) × (n ≡ hop))
some_parts None true n hop h = inr (refl, refl, some_n n hop h)
some_parts None false n hop h = cc
some_parts (Some k) b n hop h = inl h

-- a walk without a system after its root passes none
quiet : (rows : List Row) (root hop : ℕ) (walk : List Row) (node : ℕ) → IsWalk rows root walk node → first_system walk ≡ None → IsDirect walk root hop × ((node ≡ root) ⊎ (is_system node ≡ false))
quiet rows root hop [] node is none = (tt, inl is)
quiet rows root hop (row ∷ walk) node is none =
    let p = none_parts (first_system walk) (is_system (end row)) (end row) none in
    let q = quiet rows root hop walk (start row) is.3 p.0 in (
      (
        elim q.1 [
          | inl home ↦ (λ system. inl home)
          | inr pseudo ↦ (λ system. let bad : true ≡ false = sym system ∙ pseudo in absurd cc)
        ],
        q.0,
      ),
      inr (subst (λ (n : ℕ). is_system n ≡ false) is.1 p.1),
    )

not_home : (rows : List Row) (root : ℕ) (walk : List Row) (node hop : ℕ) → IsWalk rows root walk node → first_system walk ≡ Some hop → node ≢ root
not_home rows root [] node hop is found = cc
not_home rows root (row ∷ walk) node hop is found = is.2

pub parts : (rows : List Row) (root hop : ℕ) (walk : List Row) (node : ℕ) → IsWalk rows root walk node → first_system walk ≡ Some hop → Parts rows root hop node (cost walk)
parts rows root hop [] node is found = cc
parts rows root hop (row ∷ walk) node is found =
    elim (some_parts (first_system walk) (is_system (end row)) (end row) hop found) [
      | inl before ↦
          let p = parts rows root hop walk (start row) is.3 before in
          let sum = p.sum in
          record {
            first = p.first;
            later = row ∷ p.later;
            led = p.led;
            direct = p.direct;
            goes_on = (is.0, is.1, p.goes_on);
            away = (not_home rows root walk (start row) hop is.3 before, p.away);
            sum = omega arith;
            system = p.system;
            other = p.other;
          }
      | inr here ↦
          let q = quiet rows root hop walk (start row) is.3 here.0 in
          let e : node ≡ hop = sym is.1 ∙ here.2 in
          record {
            first = row ∷ walk;
            later = [];
            led = (is.0, here.2, (λ h. is.2 (e ∙ h)), is.3);
            direct = (
              elim q.1 [
                | inl home ↦ (λ system. inl home)
                | inr pseudo ↦ (λ system. let bad : true ≡ false = sym system ∙ pseudo in absurd cc)
              ],
              q.0,
            );
            goes_on = e;
            away = tt;
            sum = omega arith;
            system = subst (λ (n : ℕ). is_system n ≡ true) here.2 here.1;
            other = λ h. is.2 (e ∙ h);
          }
    ]

-- ---- rows that may be walked from one node and from another

pub of_filter : {X : Type 0} (p : X → Bool) (xs : List X) (x : X) → Contains (filter p xs) x → Contains xs x × (p x ≡ true)
of_filter p [] x h = absurd (contains_none x h)
of_filter p (y ∷ xs) x h =
    elim (cases_Bool (p y)) [
      | inl passed ↦
          let h2 : Contains (y ∷ filter p xs) x = rw passed at h in
          elim (contains_cases y x (filter p xs) h2) [
            | inl is ↦ (subst (λ z. Contains (y ∷ xs) z) is (contains_first y xs), ap p (sym is) ∙ passed)
            | inr more ↦ let f = of_filter p xs x more in (contains_rest y x xs f.0, f.1)
          ]
      | inr failed ↦
          let h2 : Contains (filter p xs) x = rw failed at h in
          let f = of_filter p xs x h2 in
          (contains_rest y x xs f.0, f.1)
    ]

pub to_filter : {X : Type 0} (p : X → Bool) (xs : List X) (x : X) → Contains xs x → p x ≡ true → Contains (filter p xs) x
to_filter p [] x h passed = absurd (contains_none x h)
to_filter p (y ∷ xs) x h passed =
    elim (contains_cases y x xs h) [
      | inl is ↦
          let y_passed : p y ≡ true = ap p is ∙ passed in
          let there : Contains (filter p (y ∷ xs)) y = rw y_passed (contains_first y (filter p xs)) in
          subst (λ z. Contains (filter p (y ∷ xs)) z) is there
      | inr more ↦
          let rest = to_filter p xs x more passed in
          elim (cases_Bool (p y)) [
            | inl y_passed ↦ rw y_passed (contains_rest y x (filter p xs) rest)
            | inr y_failed ↦ rw y_failed rest
          ]
    ]

abbrev pub may : List Row → List NodeId → ℕ → Row → Bool
may rows overloaded root row = is_usable rows overloaded root (start row) (end row) row.metric

last_part : (a b c d : Bool) → (a && (b && c)) ≡ true → d ≡ true → (a && (b && d)) ≡ true
last_part a b c d h e = let p = and_parts a (b && c) h in let q = and_parts b c p.1 in rw p.0 (rw q.0 e)

third_part : (a b c : Bool) → (a && (b && c)) ≡ true → c ≡ true
third_part a b c h = (and_parts b c (and_parts a (b && c) h).1).1

-- a row that doesn't start at the root starts at a node that isn't overloaded
calm_start : (rows : List Row) (overloaded : List NodeId) (root : ℕ) (row : Row) → may rows overloaded root row ≡ true → start row ≢ root → not (is_overloaded overloaded (start row)) ≡ true
calm_start rows overloaded root row h other =
    let c = third_part (not (row.metric == 16777215)) (leads rows (end row) (start row)) (start row == root || not (is_overloaded overloaded (start row))) h in
    elim (or_cases (start row == root) (not (is_overloaded overloaded (start row))) c) [
      | inl here ↦ absurd (other (eqb-true (start row) root here))
      | inr calm ↦ calm
    ]

or_right : (a b : Bool) → b ≡ true → (a || b) ≡ true
or_right true b h = refl
or_right false b h = h

-- a row from a node that isn't overloaded may be walked from any other root as well
may_too : (rows : List Row) (overloaded : List NodeId) (root other : ℕ) (row : Row) → may rows overloaded root row ≡ true → not (is_overloaded overloaded (start row)) ≡ true → may rows overloaded other row ≡ true
may_too rows overloaded root other row h calm =
    last_part (not (row.metric == 16777215)) (leads rows (end row) (start row)) (start row == root || not (is_overloaded overloaded (start row))) (start row == other || not (is_overloaded overloaded (start row))) h
    (or_right (start row == other) (not (is_overloaded overloaded (start row))) calm)

-- a row that may be walked from a root that isn't overloaded may be walked from any other
may_from : (rows : List Row) (overloaded : List NodeId) (root other : ℕ) (row : Row) → not (is_overloaded overloaded root) ≡ true → may rows overloaded root row ≡ true → may rows overloaded other row ≡ true
may_from rows overloaded root other row calm h =
    elim (cases_eq (start row) root) [
      | inl here ↦ may_too rows overloaded root other row h (subst (λ (n : ℕ). not (is_overloaded overloaded n) ≡ true) (sym here) calm)
      | inr away ↦ may_too rows overloaded root other row h (calm_start rows overloaded root row h away)
    ]

away_too : (rows : List Row) (overloaded : List NodeId) (root other from : ℕ) (way : List Row) (to : ℕ) → IsWay (usable_from rows overloaded root) from way to → IsAway way root → IsWay (usable_from rows overloaded other) from way to
away_too rows overloaded root other from [] to is away = is
away_too rows overloaded root other from (row ∷ way) to is away =
    let f = of_filter (may rows overloaded root) rows row is.0 in
    let calm = calm_start rows overloaded root row f.1 away.0 in
    (to_filter (may rows overloaded other) rows row f.0 (may_too rows overloaded root other row f.1 calm), is.1, away_too rows overloaded root other from way (start row) is.2 away.1)

calm_from : (rows : List Row) (overloaded : List NodeId) (root from : ℕ) (way : List Row) (to : ℕ) → IsWay (usable_from rows overloaded root) from way to → IsAway way root → to ≢ from → not (is_overloaded overloaded from) ≡ true
calm_from rows overloaded root from [] to is away other = absurd (other is)
calm_from rows overloaded root from (row ∷ way) to is away other =
    elim (cases_eq (start row) from) [
      | inl here ↦
          let f = of_filter (may rows overloaded root) rows row is.0 in
          subst (λ (n : ℕ). not (is_overloaded overloaded n) ≡ true) here (calm_start rows overloaded root row f.1 away.0)
      | inr later ↦ calm_from rows overloaded root from way (start row) is.2 away.1 later
    ]

from_too : (rows : List Row) (overloaded : List NodeId) (root other from : ℕ) (way : List Row) (to : ℕ) → not (is_overloaded overloaded root) ≡ true → IsWay (usable_from rows overloaded root) from way to → IsWay (usable_from rows overloaded other) from way to
from_too rows overloaded root other from [] to calm is = is
from_too rows overloaded root other from (row ∷ way) to calm is =
    let f = of_filter (may rows overloaded root) rows row is.0 in
    (to_filter (may rows overloaded other) rows row f.0 (may_from rows overloaded root other row calm f.1), is.1, from_too rows overloaded root other from way (start row) calm is.2)

-- ---- so the cost falls by that of the move

-- the least walk costs no more than a way to the hop and one from there
joined : (rows : List Row) (root hop node least : ℕ) (first later : List Row) → ((walk : List Row) → IsWalk rows root walk node → least ≤ cost walk) → IsWay rows root first hop → IsWay rows hop later node → least ≤ cost first + cost later
joined rows root hop node least first later none_less a b =
    let w = walk_of rows root (later ++ first) node (join rows root hop node first later a b) in
    let cheap = w.2 in
    let le = none_less w.0 w.1 in
    let both = cost_joined later first in
    omega arith

rest_least : (rows : List Row) (overloaded : List NodeId) (from hop target least : ℕ) (p : Parts (usable_from rows overloaded from) from hop target least) → ((walk : List Row) → IsWalk (usable_from rows overloaded from) from walk target → least ≤ cost walk) → (way : List Row) → IsWay (usable_from rows overloaded hop) hop way target → cost p.later ≤ cost way
rest_least rows overloaded from hop target least p none_less way is =
    let sum = p.sum in
    elim (cases_eq target hop) [
      | inl there ↦
          let le = none_less p.first (subst (λ (n : ℕ). IsWalk (usable_from rows overloaded from) from p.first n) (sym there) p.led) in
          omega arith
      | inr on ↦
          let calm = calm_from rows overloaded from hop p.later target p.goes_on p.away on in
          let le = joined (usable_from rows overloaded from) from hop target least p.first way none_less (way_of (usable_from rows overloaded from) from p.first hop p.led) (from_too rows overloaded hop from hop way target calm is) in
          omega arith
    ]

pub falls : (rows : List Row) (overloaded : List NodeId) (from hop target : ℕ) → from ≢ target → IsNextHop (usable_from rows overloaded from) from target hop → Falls rows overloaded from hop target
falls rows overloaded from hop target other next =
    let usable = usable_from rows overloaded from in
    let none_less : (walk : List Row) → IsWalk usable from walk target → cost next.0 ≤ cost walk = next.1.least in
    let p = parts usable from hop next.0 target next.1.is next.2 in
    let sum = p.sum in
    let rest = rest_least rows overloaded from hop target (cost next.0) p none_less in
    let w = walk_of (usable_from rows overloaded hop) hop p.later target (away_too rows overloaded from hop hop p.later target p.goes_on p.away) in
    let w_cheap = w.2 in
    let w_least = rest w.0 (way_of (usable_from rows overloaded hop) hop w.0 target w.1) in
    record {
      move = cost p.first;
      rest = cost p.later;
      other = p.other;
      moved = record {
        walk = (p.first, p.led, p.direct, refl);
        none_less = λ walk is direct.
            let le = joined usable from hop target (cost next.0) walk p.later none_less (way_of usable from walk hop is) p.goes_on in
            omega arith;
      };
      there = record {
        walk = (w.0, w.1, omega arith);
        none_less = λ walk is. rest walk (way_of (usable_from rows overloaded hop) hop walk target is);
      };
      all = record {
        walk = (next.0, next.1.is, omega arith);
        none_less = λ walk is. let le = none_less walk is in omega arith;
      };
    }

first_row : (rows : List Row) (from : ℕ) (walk : List Row) (to : ℕ) → IsWalk rows from walk to → to ≢ from → ((row : Row) → Contains rows row → start row ≡ from → 1 ≤ row.metric) → 1 ≤ cost walk
first_row rows from [] to is other some = absurd (other is)
first_row rows from (row ∷ walk) to is other some =
    elim (cases_eq (start row) from) [
      | inl here ↦ let one = some row is.0 here in omega arith
      | inr later ↦ let rest = first_row rows from walk (start row) is.3 later some in omega arith
    ]

pub costs_some : (rows : List Row) (from hop least : ℕ) → from ≢ hop → ((row : Row) → Contains rows row → start row ≡ from → 1 ≤ row.metric) → IsMoveCost rows from hop least → 1 ≤ least
costs_some rows from hop least other some moved =
    let is = moved.walk.3 in
    let one = first_row rows from moved.walk.0 hop moved.walk.1 (λ h. other (sym h)) some in
    omega arith

pub usable_there : (rows : List Row) (overloaded : List NodeId) (root : ℕ) (row : Row) → Contains (usable_from rows overloaded root) row → Contains rows row
usable_there rows overloaded root row h = (of_filter (may rows overloaded root) rows row h).0
