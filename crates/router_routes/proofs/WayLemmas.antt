-- Tables of candidates: what rows have that are made of others, and that a table with rows put in has what there is then.
use Rattle.std.proofs.Common.{◌≡◌, ◌∙◌, ◌↔◌, ℕ, ◌+◌, ◌≤◌, ◌==◌, Bool, true, false, not, List, [], ◌∷◌, ◌++◌, length, map, filter, append_assoc, append-nil, Option, Some, None, refl, sym, ap, subst, arith, zero-le, inl, inr, if◌then◌else◌}
use Rattle.std.specs.List.{Contains}
use Rattle.std.specs.List.Sorted.{IsStrictlyIncreasing}
use Rattle.std.proofs.lemmas.Bool.{cases_eq, eq-eqb, ne_eqb, eqb-true}
use Rattle.std.proofs.lemmas.Bool.Decides.{nat_tests}
use Rattle.std.proofs.lemmas.List.Elements.{Contains-append_left, Contains-append_right, Contains-append_cases}
use Rattle.isis_base.specs.declared.prefix.Prefix.{Prefix}
use Rattle.isis_base.specs.Prefixes.{prefix_number}
use Rattle.model_router.specs.Maps.{find, set_at}
use Rattle.model_router.specs.Sorted.{RisesFrom}
use Rattle.model_router.proofs.MapLemmas.{find-set_at}
use Rattle.spf_tree.proofs.SearchLemmas.{contains_none}
use Rattle.spf_tree.proofs.DistanceLemmas.{FirstAbove, up_first, up_tail}
use Rattle.route_table.specs.declared.candidate.Candidate.{Candidate}
use Rattle.route_table.specs.Patches.{is_moved}
use Rattle.router_routes.specs.Kept.{AreSame}
use Rattle.router_routes.specs.Ways.{AreApart, AreAtNumbers, AreWays, add_at, add_each, add_if, all_in, is_by, kept_at, kept_pair, number_of, prefixes_via, put_all, some_ways, ways_in, ways_or}
use Rattle.router_routes.proofs.KeptLemmas.{filter-in, in-filter}
use Rattle.router_routes.proofs.NumberLemmas.{in-map, there-moved}

abbrev Ways : Type 0
Ways = List Candidate

abbrev Table : Type 0
Table = List (ℕ × Ways)

-- ---- rows that candidates are added to

abbrev is-for : ℕ → Candidate → Bool
is-for n c = prefix_number c.prefix == n

abbrev with-all : Option Ways → Ways → Option Ways
with-all None more = None
with-all (Some ways) more = Some (ways ++ more)

add-one : (c : Candidate) (n k : ℕ) (ways : Ways) (rest : Option Ways) (more : Ways) → (t u v : Bool) → (k == prefix_number c.prefix) ≡ t → (k == n) ≡ u → (prefix_number c.prefix == n) ≡ v
    → (if u then Some (if t then ways ++ c ∷ [] else ways) else with-all rest (if v then c ∷ [] else [])) ≡ with-all (if u then Some ways else rest) (if v then c ∷ [] else [])
add-one c n k ways rest more true true true a b d = refl
add-one c n k ways rest more true true false a b d = absurd (grind (arith, nat_tests, a, b, d))
add-one c n k ways rest more false true true a b d = absurd (grind (arith, nat_tests, a, b, d))
add-one c n k ways rest more false true false a b d = ap (λ (l : Ways). Some l) (sym (append-nil ways))
add-one c n k ways rest more t false v a b d = refl

pair-if : (c : Candidate) (k : ℕ) (ways : Ways) (t : Bool) → (k == prefix_number c.prefix) ≡ t → add_if c (k, ways) ≡ (k, if t then ways ++ c ∷ [] else ways)
pair-if c k ways true is = rw is refl
pair-if c k ways false is = rw is refl

find-pair : (p : ℕ × Ways) (rest : Table) (k n : ℕ) (ways : Ways) → p ≡ (k, ways) → find (p ∷ rest) n ≡ (if k == n then Some ways else find rest n)
find-pair p rest k n ways e = ap (λ (q : ℕ × Ways). find (q ∷ rest) n) e

find-add : (table : Table) (c : Candidate) (n : ℕ) → find (add_at table c) n ≡ with-all (find table n) (if is-for n c then c ∷ [] else [])
find-add [] c n = refl
find-add (p ∷ table) c n =
    find-pair (add_if c p) (add_at table c) p.0 n (if p.0 == prefix_number c.prefix then p.1 ++ c ∷ [] else p.1) (pair-if c p.0 p.1 (p.0 == prefix_number c.prefix) refl)
    ∙ ap (λ (o : Option Ways). if p.0 == n then Some (if p.0 == prefix_number c.prefix then p.1 ++ c ∷ [] else p.1) else o) (find-add table c n)
    ∙ add-one c n p.0 p.1 (find table n) [] (p.0 == prefix_number c.prefix) (p.0 == n) (prefix_number c.prefix == n) refl refl refl

with-more : (o : Option Ways) (a b : Ways) → with-all (with-all o a) b ≡ with-all o (a ++ b)
with-more None a b = refl
with-more (Some ways) a b = ap (λ (l : Ways). Some l) (append_assoc ways a b)

filter-cons : (n : ℕ) (c : Candidate) (more : Ways) (t : Bool) → (if t then c ∷ [] else []) ++ filter (is-for n) more ≡ (if t then c ∷ filter (is-for n) more else filter (is-for n) more)
filter-cons n c more true = refl
filter-cons n c more false = refl

with-none : (o : Option Ways) → o ≡ with-all o []
with-none None = refl
with-none (Some ways) = ap (λ (l : Ways). Some l) (sym (append-nil ways))

find-each : (come : Ways) (table : Table) (n : ℕ) → find (add_each table come) n ≡ with-all (find table n) (filter (is-for n) come)
find-each [] table n = with-none (find table n)
find-each (c ∷ more) table n =
    find-each more (add_at table c) n
    ∙ ap (λ (o : Option Ways). with-all o (filter (is-for n) more)) (find-add table c n)
    ∙ with-more (find table n) (if is-for n c then c ∷ [] else []) (filter (is-for n) more)
    ∙ ap (with-all (find table n)) (filter-cons n c more (is-for n c))

-- ---- the rows of some numbers

find-listed : (moved : List ℕ) (table : Table) (numbers : List ℕ) (n : ℕ) → find (map (kept_pair moved table) numbers) n ≡ (if is_moved numbers n then Some (kept_at moved table n) else None)
find-listed moved table [] n = refl
find-listed moved table (m ∷ numbers) n =
    elim (cases_eq m n) [
      | inl here ↦ rw (eq-eqb m n here) (ap (λ (k : ℕ). Some (kept_at moved table k)) here)
      | inr other ↦ rw (ne_eqb m n other) (find-listed moved table numbers n)
    ]

-- ---- rows rise

rises-next : (moved : List ℕ) (table : Table) (m : ℕ) (numbers : List ℕ) → FirstAbove m numbers → IsStrictlyIncreasing numbers → RisesFrom (m + 1) (map (kept_pair moved table) numbers)
rises-next moved table m [] first r = tt
rises-next moved table m (n ∷ numbers) first r = (omega (arith, first), rises-next moved table n numbers (up_first n numbers r) (up_tail n numbers r))

pub rises-kept : (moved : List ℕ) (table : Table) (numbers : List ℕ) → IsStrictlyIncreasing numbers → RisesFrom 0 (map (kept_pair moved table) numbers)
rises-kept moved table [] r = tt
rises-kept moved table (m ∷ numbers) r = (zero-le, rises-next moved table m numbers (up_first m numbers r) (up_tail m numbers r))

key-if : (c : Candidate) (p : ℕ × Ways) → p.0 ≡ (add_if c p).0
key-if c p = sym (ap (λ (q : ℕ × Ways). q.0) (pair-if c p.0 p.1 (p.0 == prefix_number c.prefix) refl))

pub rises-add : (c : Candidate) (table : Table) (least : ℕ) → RisesFrom least table → RisesFrom least (add_at table c)
rises-add c [] least r = tt
rises-add c (p ∷ table) least r =
    (subst (λ (k : ℕ). least ≤ k) (key-if c p) r.0, subst (λ (k : ℕ). RisesFrom (k + 1) (add_at table c)) (key-if c p) (rises-add c table (p.0 + 1) r.1))

rises-each : (come : Ways) (table : Table) (least : ℕ) → RisesFrom least table → RisesFrom least (add_each table come)
rises-each [] table least r = r
rises-each (c ∷ more) table least r = rises-each more (add_at table c) least (rises-add c table least r)

-- ---- rows put in

abbrev or-ways : Option Ways → Ways → Ways
or-ways None old = old
or-ways (Some ways) old = ways

some-same : (ways : Ways) → ways_or (some_ways ways) ≡ ways
some-same [] = refl
some-same (c ∷ ways) = refl

set-here : (table : Table) (k n : ℕ) (ways : Ways) → k ≡ n → ways_in (set_at table k (some_ways ways)) n ≡ ways
set-here table k n ways e = ap ways_or (find-set_at table k (some_ways ways) n ∙ ap (λ (t : Bool). if t then some_ways ways else find table n) (eq-eqb k n e)) ∙ some-same ways

set-other : (table : Table) (k n : ℕ) (ways : Ways) → (k ≡ n → ⊥) → ways_in (set_at table k (some_ways ways)) n ≡ ways_in table n
set-other table k n ways e = ap ways_or (find-set_at table k (some_ways ways) n ∙ ap (λ (t : Bool). if t then some_ways ways else find table n) (ne_eqb k n e))

pub put-in : (rows table : Table) (n : ℕ) → ways_in (put_all table rows) n ≡ or-ways (find rows n) (ways_in table n)
put-in [] table n = refl
put-in (row ∷ rows) table n =
    elim (cases_eq row.0 n) [
      | inl here ↦
          set-here (put_all table rows) row.0 n row.1 here
          ∙ sym (ap (λ (t : Bool). or-ways (if t then Some row.1 else find rows n) (ways_in table n)) (eq-eqb row.0 n here))
      | inr other ↦
          set-other (put_all table rows) row.0 n row.1 other
          ∙ put-in rows table n
          ∙ sym (ap (λ (t : Bool). or-ways (if t then Some row.1 else find rows n) (ways_in table n)) (ne_eqb row.0 n other))
    ]

-- what stands there of a number whose row is put in, and of another
pub then-found : (rows table : Table) (n : ℕ) (ways : Ways) → find rows n ≡ Some ways → ways_in (put_all table rows) n ≡ ways
then-found rows table n ways is = put-in rows table n ∙ ap (λ (o : Option Ways). or-ways o (ways_in table n)) is

pub then-none : (rows table : Table) (n : ℕ) → find rows n ≡ None → ways_in (put_all table rows) n ≡ ways_in table n
then-none rows table n is = put-in rows table n ∙ ap (λ (o : Option Ways). or-ways o (ways_in table n)) is

-- the last row put in first
pub put-last : (rows table : Table) (row : ℕ × Ways) → put_all table (rows ++ row ∷ []) ≡ put_all (set_at table row.0 (some_ways row.1)) rows
put-last [] table row = refl
put-last (x ∷ rows) table row = ap (λ (t : Table). set_at t x.0 (some_ways x.1)) (put-last rows table row)

-- ---- rows as they will be

abbrev keeps : List ℕ → Candidate → Bool
keeps moved c = not (is_by moved c)

-- where these come in the place of those that went, which are all by way of nodes of these numbers
module _ (table : Table) (list went come left right : Ways) (numbers moved : List ℕ) (are : AreWays table list) (all : AreSame list (filter (keeps moved) list ++ went)) (parts : AreApart went come left right) (goes : AreAtNumbers left numbers) (comes : AreAtNumbers right numbers) where
  abbrev rows : Table
  rows = add_each (map (kept_pair moved table) numbers) come

  abbrev later : Table
  later = put_all table rows

  abbrev then-list : Ways
  then-list = filter (keeps moved) list ++ come

  later-ways : (n : ℕ) → ways_in later n ≡ or-ways (with-all (if is_moved numbers n then Some (kept_at moved table n) else None) (filter (is-for n) come)) (ways_in table n)
  later-ways n =
      put-in rows table n
      ∙ ap (λ (o : Option Ways). or-ways o (ways_in table n)) (find-each come (map (kept_pair moved table) numbers) n ∙ ap (λ (o : Option Ways). with-all o (filter (is-for n) come)) (find-listed moved table numbers n))

  at-listed : (n : ℕ) → is_moved numbers n ≡ true → ways_in later n ≡ kept_at moved table n ++ filter (is-for n) come
  at-listed n is = later-ways n ∙ ap (λ (t : Bool). or-ways (with-all (if t then Some (kept_at moved table n) else None) (filter (is-for n) come)) (ways_in table n)) is

  at-other : (n : ℕ) → is_moved numbers n ≡ false → ways_in later n ≡ ways_in table n
  at-other n is = later-ways n ∙ ap (λ (t : Bool). or-ways (with-all (if t then Some (kept_at moved table n) else None) (filter (is-for n) come)) (ways_in table n)) is

  listed-to : (n : ℕ) (c : Candidate) → Contains (kept_at moved table n ++ filter (is-for n) come) c → Contains then-list c × (number_of c ≡ n)
  listed-to n c there =
      elim (Contains-append_cases (kept_at moved table n) (filter (is-for n) come) c there) [
        | inl here ↦
            let o = filter-in (keeps moved) (ways_in table n) c here in
            let a = (are n c).0 o.0 in
            (Contains-append_left (filter (keeps moved) list) come c (in-filter (keeps moved) list c a.0 o.1), a.1)
        | inr more ↦
            let o = filter-in (is-for n) come c more in
            (Contains-append_right (filter (keeps moved) list) come c o.0, eqb-true (number_of c) n o.1)
      ]

  listed-from : (n : ℕ) (c : Candidate) → Contains then-list c × (number_of c ≡ n) → Contains (kept_at moved table n ++ filter (is-for n) come) c
  listed-from n c both =
      elim (Contains-append_cases (filter (keeps moved) list) come c both.0) [
        | inl here ↦
            let o = filter-in (keeps moved) list c here in
            Contains-append_left (kept_at moved table n) (filter (is-for n) come) c (in-filter (keeps moved) (ways_in table n) c ((are n c).1 (o.0, both.1)) o.1)
        | inr more ↦ Contains-append_right (kept_at moved table n) (filter (is-for n) come) c (in-filter (is-for n) come c more (eq-eqb (number_of c) n both.1))
      ]

  not-listed : (n : ℕ) → is_moved numbers n ≡ false → (c : Candidate) (some : Ways) → AreAtNumbers some numbers → number_of c ≡ n → Contains some c → ⊥
  not-listed n none c some at is there = (let e : true ≡ false = sym (at c there) ∙ ap (is_moved numbers) is ∙ none in cc)

  other-to : (n : ℕ) → is_moved numbers n ≡ false → (c : Candidate) → Contains (ways_in table n) c → Contains then-list c × (number_of c ≡ n)
  other-to n none c there =
      let a = (are n c).0 there in
      let stay : Contains then-list c =
      elim (Contains-append_cases (filter (keeps moved) list) went c ((all c).0 a.0)) [
        | inl kept ↦ Contains-append_left (filter (keeps moved) list) come c kept
        | inr out ↦
            elim (parts.gone c out) [
              | inl back ↦ Contains-append_right (filter (keeps moved) list) come c back
              | inr other ↦ absurd (not-listed n none c left goes a.1 other)
            ]
      ] in
      (stay, a.1)

  other-from : (n : ℕ) → is_moved numbers n ≡ false → (c : Candidate) → Contains then-list c × (number_of c ≡ n) → Contains (ways_in table n) c
  other-from n none c both =
      elim (Contains-append_cases (filter (keeps moved) list) come c both.0) [
        | inl here ↦ (are n c).1 ((filter-in (keeps moved) list c here).0, both.1)
        | inr more ↦
            elim (parts.come c more) [
              | inl back ↦ (are n c).1 ((all c).1 (Contains-append_right (filter (keeps moved) list) went c back), both.1)
              | inr other ↦ absurd (not-listed n none c right comes both.1 other)
            ]
      ]

  by-listed : (n : ℕ) (c : Candidate) (t : Bool) → is_moved numbers n ≡ t → Contains (ways_in later n) c ↔ (Contains then-list c × (number_of c ≡ n))
  by-listed n c true is = (
    λ there. listed-to n c (subst (λ (l : Ways). Contains l c) (at-listed n is) there),
    λ both. subst (λ (l : Ways). Contains l c) (sym (at-listed n is)) (listed-from n c both),
  )
  by-listed n c false is = (
    λ there. other-to n is c (subst (λ (l : Ways). Contains l c) (at-other n is) there),
    λ both. subst (λ (l : Ways). Contains l c) (sym (at-other n is)) (other-from n is c both),
  )

  pub later-are : AreWays later then-list
  later-are = λ n c. by-listed n c (is_moved numbers n) refl

-- ---- a table made of a list

new-ways : (list : Ways) (numbers : List ℕ) (n : ℕ) → ways_in (add_each (map (kept_pair [] []) numbers) list) n ≡ ways_or (with-all (if is_moved numbers n then Some [] else None) (filter (is-for n) list))
new-ways list numbers n = ap ways_or (find-each list (map (kept_pair [] []) numbers) n ∙ ap (λ (o : Option Ways). with-all o (filter (is-for n) list)) (find-listed [] [] numbers n))

new-cases : (list : Ways) (numbers : List ℕ) → AreAtNumbers list numbers → (n : ℕ) (c : Candidate) (t : Bool) → is_moved numbers n ≡ t → Contains (ways_or (with-all (if t then Some [] else None) (filter (is-for n) list))) c ↔ (Contains list c × (number_of c ≡ n))
new-cases list numbers at n c true is = (
  λ there. (let o = filter-in (is-for n) list c there in (o.0, eqb-true (number_of c) n o.1)),
  λ both. in-filter (is-for n) list c both.0 (eq-eqb (number_of c) n both.1),
)
new-cases list numbers at n c false is = (
  λ there. absurd (contains_none c there),
  λ both. absurd (let e : true ≡ false = sym (at c both.0) ∙ ap (is_moved numbers) both.1 ∙ is in cc),
)

pub new-are : (list : Ways) (numbers : List ℕ) → AreAtNumbers list numbers → AreWays (add_each (map (kept_pair [] []) numbers) list) list
new-are list numbers at n c =
    let cases = new-cases list numbers at n c (is_moved numbers n) refl in (
      λ there. cases.0 (subst (λ (l : Ways). Contains l c) (new-ways list numbers n) there),
      λ both. subst (λ (l : Ways). Contains l c) (sym (new-ways list numbers n)) (cases.1 both),
    )

-- a table of the same candidates
pub ways-same : (table : Table) (list others : Ways) → AreSame list others → AreWays table list → AreWays table others
ways-same table list others same are n c = (
  λ there. (let o = (are n c).0 there in ((same c).0 o.0, o.1)),
  λ both. (are n c).1 ((same c).1 both.0, both.1),
)

-- what a table has is one list
pub ways-one : (table : Table) (some others : Ways) → AreWays table some → AreWays table others → AreSame some others
ways-one table some others a b c = (
  λ there. ((b (number_of c) c).0 ((a (number_of c) c).1 (there, refl))).0,
  λ there. ((a (number_of c) c).0 ((b (number_of c) c).1 (there, refl))).0,
)

-- the numbers of candidates, in order
pub at-numbers : (candidates : Ways) (n0 n1 n2 sorted : List ℕ) → n1 ≡ n0 ++ map number_of candidates → ((n : ℕ) → Contains n1 n → Contains n2 n) → ((n : ℕ) → Contains n2 n → Contains sorted n) → AreAtNumbers candidates sorted
at-numbers candidates n0 n1 n2 sorted e more all c there =
    there-moved sorted (number_of c) (all (number_of c) (more (number_of c) (subst (λ (l : List ℕ). Contains l (number_of c)) (sym e) (Contains-append_right n0 (map number_of candidates) (number_of c) (in-map number_of candidates c there)))))

-- no candidate is by way of a node of no numbers
pub via-nothing : (numbers : List ℕ) (cs : Ways) (ps : List Prefix) → length numbers ≡ 0 → ps ≡ ps ++ prefixes_via numbers cs
via-nothing [] [] ps e = sym (append-nil ps)
via-nothing [] (c ∷ cs) ps e = via-nothing [] cs ps e
via-nothing (n ∷ numbers) cs ps e = absurd (omega (arith, e))

-- ---- all candidates of a table

find-all : (table : Table) (n : ℕ) (c : Candidate) → Contains (ways_in table n) c → Contains (all_in table) c
find-all [] n c there = absurd (contains_none c there)
find-all (row ∷ table) n c there = find-step row table n c (find-all table n c) (row.0 == n) refl there
  where
    find-step : (row : ℕ × Ways) (table : Table) (n : ℕ) (c : Candidate) → (Contains (ways_in table n) c → Contains (all_in table) c) → (t : Bool) → (row.0 == n) ≡ t → Contains (ways_or (if t then Some row.1 else find table n)) c → Contains (all_in (row ∷ table)) c
    find-step row table n c rest true is there = Contains-append_left row.1 (all_in table) c there
    find-step row table n c rest false is there = Contains-append_right row.1 (all_in table) c (rest there)

pub in-all : (table : Table) (list : Ways) → AreWays table list → (c : Candidate) → Contains list c → Contains (all_in table) c
in-all table list are c there = find-all table (number_of c) c ((are (number_of c) c).1 (there, refl))
