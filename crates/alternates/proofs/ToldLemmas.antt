-- What sides tell is what alternates are.

use Rattle.std.proofs.Common.{◌≡◌, ◌≢◌, ◌∙◌, ℕ, ◌+◌, ◌<◌, ◌==◌, ◌&&◌, Bool, true, false, not, if◌then◌else◌, List, [], ◌∷◌, ◌++◌, map, length, get_or, take, Option, Some, None, refl, sym, ap, subst, arith, inl, inr}
use Rattle.std.specs.Prelude.{IsTrue, ◌↔◌}
use Rattle.std.specs.List.{Contains, filter_map}
use Rattle.std.specs.List.Sorted.{IsStrictlyIncreasing}
use Rattle.std.proofs.lemmas.Bool.{and_parts, eq-eqb, ne_eqb}
use Rattle.std.proofs.lemmas.List.{take_more}
use Rattle.std.proofs.lemmas.List.Elements.{filter_map-append}
use Rattle.spf_tree.specs.declared.row.Row.{Row}
use Rattle.spf_tree.specs.Nodes.{is_system}
use Rattle.spf_tree.specs.Distances.{cost_at, AreDistances}
use Rattle.spf_tree.proofs.SearchLemmas.{contains_first, contains_rest, contains_cases, contains_none}
use Rattle.spf_tree.proofs.DistanceLemmas.{FirstAbove, up_cons, up_tail, up_first}
use Rattle.alternates.specs.declared.alternate.Alternate.{Alternate}
use Rattle.alternates.specs.declared.side.Side.{Side}
use Rattle.alternates.specs.Ways.{IsLeastWay, Avoids}
use Rattle.alternates.specs.Alternates.{IsLeastMetric, IsTold, via_of, AreAlternates}
use Rattle.alternates.specs.Sides.{is_below, side_of, SidesOf, ArePrepared, told_at, told_by, told_of, one_of}
use Rattle.alternates.proofs.WayLemmas.{way_least, way_there, least_way, below_avoids, avoids_below}

-- ---- elements of mapped and filtered lists

in_map : {X Y : Type 0} (f : X → Y) (xs : List X) (x : X) → Contains xs x → Contains (map f xs) (f x)
in_map f [] x h = absurd (contains_none x h)
in_map f (y ∷ xs) x h =
    elim (contains_cases y x xs h) [
      | inl is ↦ subst (λ z. Contains (map f (y ∷ xs)) (f z)) is (contains_first (f y) (map f xs))
      | inr more ↦ contains_rest (f y) (f x) (map f xs) (in_map f xs x more)
    ]

of_map : {X Y : Type 0} (f : X → Y) (xs : List X) (y : Y) → Contains (map f xs) y → (x : X) × Contains xs x × (f x ≡ y)
of_map f [] y h = absurd (contains_none y h)
of_map f (x ∷ xs) y h =
    elim (contains_cases (f x) y (map f xs) h) [
      | inl is ↦ (x, contains_first x xs, is)
      | inr more ↦ let o = of_map f xs y more in (o.0, contains_rest x o.0 xs o.1, o.2)
    ]

abbrev pub Comes : {X Y : Type 0} → (X → Option Y) → List X → Y → Type 0
Comes {X} h xs y = (x : X) × Contains xs x × (h x ≡ Some y)

of_kept_by : {X Y : Type 0} (h : X → Option Y) (x : X) (xs : List X) (y : Y) (o : Option Y) → h x ≡ o → Contains (filter_map h (x ∷ xs)) y → (Contains (filter_map h xs) y → Comes h xs y) → Comes h (x ∷ xs) y
of_kept_by h x xs y None is there on = let o = on (rw is at there) in (o.0, contains_rest x o.0 xs o.1, o.2)
of_kept_by h x xs y (Some z) is there on =
    elim (contains_cases z y (filter_map h xs) (rw is at there)) [
      | inl same ↦ (x, contains_first x xs, is ∙ ap (λ v. Some v) same)
      | inr more ↦ let o = on more in (o.0, contains_rest x o.0 xs o.1, o.2)
    ]

of_kept : {X Y : Type 0} (h : X → Option Y) (xs : List X) (y : Y) → Contains (filter_map h xs) y → Comes h xs y
of_kept h [] y there = absurd (contains_none y there)
of_kept h (x ∷ xs) y there = of_kept_by h x xs y (h x) refl there (λ more. of_kept h xs y more)

to_kept : {X Y : Type 0} (h : X → Option Y) (xs : List X) (x : X) (y : Y) → Contains xs x → h x ≡ Some y → Contains (filter_map h xs) y
to_kept h [] x y there is = absurd (contains_none x there)
to_kept {X} {Y} h (z ∷ xs) x y there is =
    elim (contains_cases z x xs there) [
      | inl same ↦ let e : h z ≡ Some y = ap h same ∙ is in rw e (contains_first y (filter_map h xs))
      | inr more ↦ go (h z) refl (to_kept h xs x y more is)
    ]
  where
    go : (o : Option Y) → h z ≡ o → Contains (filter_map h xs) y → Contains (filter_map h (z ∷ xs)) y
    go None e rest = rw e rest
    go (Some w) e rest = rw e (contains_rest w y (filter_map h xs) rest)

-- ---- in order

above_more : (n m : ℕ) (ns : List ℕ) → n < m → FirstAbove m ns → FirstAbove n ns
above_more n m [] less above = tt
above_more n m (k ∷ ns) less above = omega arith

abbrev pub IsSomeOf : Option Alternate → Type 0
IsSomeOf None = ⊥
IsSomeOf (Some told) = Unit {0}

abbrev pub Keeps : (Side → Option Alternate) → Type 0
Keeps h = (side : Side) (told : Alternate) → h side ≡ Some told → via_of told ≡ side_of side

first_by : (h : Side → Option Alternate) (side : Side) (sides : List Side) (n : ℕ) (o : Option Alternate) → h side ≡ o → (IsSomeOf o → n < side_of side) → (o ≡ None → FirstAbove n (map via_of (filter_map h sides))) → Keeps h → FirstAbove n (map via_of (filter_map h (side ∷ sides)))
first_by h side sides n None is above rest keeps = rw is (rest refl)
first_by h side sides n (Some told) is above rest keeps = let e = keeps side told is in let l = above tt in rw is (omega arith)

first_kept : (h : Side → Option Alternate) → Keeps h → (n : ℕ) (sides : List Side) → IsStrictlyIncreasing (map side_of sides) → FirstAbove n (map side_of sides) → FirstAbove n (map via_of (filter_map h sides))
first_kept h keeps n [] up above = tt
first_kept h keeps n (side ∷ sides) up above =
    first_by h side sides n (h side) refl (λ _. above)
    (λ _. first_kept h keeps n sides (up_tail (side_of side) (map side_of sides) up) (above_more n (side_of side) (map side_of sides) above (up_first (side_of side) (map side_of sides) up)))
    keeps

rising_by : (h : Side → Option Alternate) (side : Side) (sides : List Side) (o : Option Alternate) → h side ≡ o → Keeps h → FirstAbove (side_of side) (map via_of (filter_map h sides)) → IsStrictlyIncreasing (map via_of (filter_map h sides)) → IsStrictlyIncreasing (map via_of (filter_map h (side ∷ sides)))
rising_by h side sides None is keeps above rest = rw is rest
rising_by h side sides (Some told) is keeps above rest = rw is (up_cons (via_of told) (map via_of (filter_map h sides)) (subst (λ (n : ℕ). FirstAbove n (map via_of (filter_map h sides))) (sym (keeps side told is)) above) rest)

rising_kept : (h : Side → Option Alternate) → Keeps h → (sides : List Side) → IsStrictlyIncreasing (map side_of sides) → IsStrictlyIncreasing (map via_of (filter_map h sides))
rising_kept h keeps [] up = λ k l. absurd (omega arith)
rising_kept h keeps (side ∷ sides) up =
    let later = up_tail (side_of side) (map side_of sides) up in
    rising_by h side sides (h side) refl keeps (first_kept h keeps (side_of side) sides later (up_first (side_of side) (map side_of sides) up)) (rising_kept h keeps sides later)

-- ---- one side more

one_more : (h : Side → Option Alternate) (side : Side) (o : Option Alternate) → h side ≡ o → filter_map h (side ∷ []) ≡ one_of o
one_more h side None is = rw is refl
one_more h side (Some told) is = rw is refl

pub kept_more : (h : Side → Option Alternate) (sides : List Side) (i : ℕ) (side : Side) → i < length sides → side ≡ get_or sides i side → filter_map h (take (i + 1) sides) ≡ filter_map h (take i sides) ++ one_of (h side)
kept_more h sides i side in' is =
    let more : take (i + 1) sides ≡ take i sides ++ side ∷ [] = subst (λ (s : Side). take (i + 1) sides ≡ take i sides ++ s ∷ []) (sym is) (take_more sides i side in') in
    ap (filter_map h) more ∙ filter_map-append h (take i sides) (side ∷ []) ∙ ap (λ l. filter_map h (take i sides) ++ l) (one_more h side (h side) refl)

-- ---- what a side tells

if_none : (b : Bool) (o : Option Alternate) (told : Alternate) → (if b then None else o) ≡ Some told → (b ≡ false) × (o ≡ Some told)
if_none true o told h = cc
if_none false o told h = (refl, h)

if_some : (b : Bool) (x told : Alternate) → (if b then Some x else None) ≡ Some told → (b ≡ true) × (x ≡ told)
if_some true x told h = (refl, some_is x told h)
  where
    some_is : (x y : Alternate) → Some x ≡ Some y → x ≡ y
    some_is x y h = ap (λ o. or_else o x) h
      where
        or_else : Option Alternate → Alternate → Alternate
        or_else None d = d
        or_else (Some v) d = v
if_some false x told h = cc

by_some : (root target hop : ℕ) (from_root from_hop : List (ℕ × ℕ)) (side : Side) (o : Option ℕ) (told : Alternate) → told_by root target hop from_root from_hop side o ≡ Some told → (c : ℕ) × (o ≡ Some c) × (told_at root target hop from_root from_hop side c ≡ Some told)
by_some root target hop from_root from_hop side None told h = cc
by_some root target hop from_root from_hop side (Some c) told h = (c, refl, h)

abbrev pub told_record : ℕ → ℕ → List (ℕ × ℕ) → Side → ℕ → Alternate
told_record target hop from_hop side c = record {
  via = side.system;
  cost = side.metric + c;
  node = not (hop == target) && is_below c (cost_at side.distances hop) (cost_at from_hop target);
}

pub record Tells (root target hop : ℕ) (from_root from_hop : List (ℕ × ℕ)) (side : Side) (told : Alternate) : Type 0 where
  pub not_hop : side_of side ≢ hop
  pub c : ℕ
  pub there : cost_at side.distances target ≡ Some c
  pub below : is_below c (cost_at side.distances root) (cost_at from_root target) ≡ true
  pub is : told_record target hop from_hop side c ≡ told

tells : (root target hop : ℕ) (from_root from_hop : List (ℕ × ℕ)) (side : Side) (told : Alternate) → told_of root target hop from_root from_hop side ≡ Some told → Tells root target hop from_root from_hop side told
tells root target hop from_root from_hop side told h =
    let p = if_none (side_of side == hop) (told_by root target hop from_root from_hop side (cost_at side.distances target)) told h in
    let q = by_some root target hop from_root from_hop side (cost_at side.distances target) told p.1 in
    let s = if_some (is_below q.0 (cost_at side.distances root) (cost_at from_root target)) (told_record target hop from_hop side q.0) told q.2 in
    record {
      not_hop = λ same. let t : (side_of side == hop) ≡ true = eq-eqb (side_of side) hop same in let f : (side_of side == hop) ≡ false = p.0 in let bad : true ≡ false = sym t ∙ f in cc;
      c = q.0;
      there = q.1;
      below = s.0;
      is = s.1;
    }

told_back : (root target hop : ℕ) (from_root from_hop : List (ℕ × ℕ)) (side : Side) (c : ℕ) → side_of side ≢ hop → cost_at side.distances target ≡ Some c → is_below c (cost_at side.distances root) (cost_at from_root target) ≡ true → told_of root target hop from_root from_hop side ≡ Some (told_record target hop from_hop side c)
told_back root target hop from_root from_hop side c other there below =
    rw (ne_eqb (side_of side) hop other) (rw there (rw below refl))

-- ---- and so they are the alternates

metric_same : (rows : List Row) (from to a b : ℕ) → IsLeastMetric rows from to a → IsLeastMetric rows from to b → a ≡ b
metric_same rows from to a b of_a of_b =
    let x = of_a.least of_b.row.0 of_b.row.1 of_b.row.2 of_b.row.3 in
    let y = of_b.least of_a.row.0 of_a.row.1 of_a.row.2 of_a.row.3 in
    let xe = of_b.row.4 in
    let ye = of_a.row.4 in
    omega arith

node_told : (rows : List Row) (target hop c : ℕ) (side : Side) (from_hop : List (ℕ × ℕ)) → AreDistances rows (side_of side) side.distances → AreDistances rows hop from_hop → cost_at side.distances target ≡ Some c → IsTrue (not (hop == target) && is_below c (cost_at side.distances hop) (cost_at from_hop target)) ↔ ((hop ≢ target) × Avoids rows (side_of side) target hop)
node_told rows target hop c side from_hop are are_hop there = (
  (λ h.
      let p = and_parts (not (hop == target)) (is_below c (cost_at side.distances hop) (cost_at from_hop target)) h in (
        (λ same. let f : not (hop == target) ≡ false = rw (eq-eqb hop target same) refl in let bad : true ≡ false = sym p.0 ∙ f in cc),
        below_avoids rows (side_of side) target hop c side.distances from_hop are are_hop there p.1,
      )),
  (λ h.
      let b = avoids_below rows (side_of side) target hop c side.distances from_hop are are_hop there (λ e. h.0 (sym e)) h.1 in
      rw (ne_eqb hop target h.0) b),
)

is_told : (rows : List Row) (root target hop : ℕ) (kept : SidesOf) (from_hop : List (ℕ × ℕ)) (side : Side) (told : Alternate) → ArePrepared rows root kept → AreDistances rows hop from_hop → Contains kept.sides side → Tells root target hop kept.root from_hop side told → IsTold rows root target hop told
is_told rows root target hop kept from_hop side told prepared are_hop there t =
    let s = prepared.sides.each side there in
    let b = prepared.sides.beside.from (side_of side) (in_map side_of kept.sides side there) in
    let w = least_way rows (side_of side) target t.c side.distances s.distances t.there in
    subst (λ (told : Alternate). IsTold rows root target hop told) t.is (record {
      is = record {
        system = b.5;
        not_root = b.4;
        not_hop = t.not_hop;
        beside = (b.0, b.1, b.2, b.3);
        way = (w.0, w.1);
        avoids = below_avoids rows (side_of side) target root t.c side.distances kept.root s.distances prepared.from_root t.there t.below;
      };
      cost = λ metric way least cheapest.
          let same = metric_same rows root (side_of side) side.metric metric s.metric least in
          let le = way_least rows (side_of side) target t.c side.distances s.distances t.there way cheapest.is in
          let ge = cheapest.least w.0 w.1.is in
          let w_cost = w.2 in
          omega arith;
      node = node_told rows target hop t.c side from_hop s.distances are_hop t.there;
    })

pub alternates_by : (rows : List Row) (root target hop : ℕ) (kept : SidesOf) (from_hop : List (ℕ × ℕ)) → ArePrepared rows root kept → AreDistances rows hop from_hop → root ≢ target → AreAlternates rows root target hop (filter_map (told_of root target hop kept.root from_hop) kept.sides)
alternates_by rows root target hop kept from_hop prepared are_hop other =
    let h = told_of root target hop kept.root from_hop in
    record {
      rising = rising_kept h (λ side told e. let t = tells root target hop kept.root from_hop side told e in sym (ap via_of t.is)) kept.sides prepared.sides.beside.rising;
      told = λ told there.
          let o = of_kept h kept.sides told there in
          is_told rows root target hop kept from_hop o.0 told prepared are_hop o.1 (tells root target hop kept.root from_hop o.0 told o.2);
      all = λ via is.
          let led = is.beside in
          let among = prepared.sides.beside.all led.0 led.1 led.2 (λ e. is.not_root (sym led.3 ∙ e)) (subst (λ (n : ℕ). is_system n ≡ true) (sym led.3) is.system) in
          let o = of_map side_of kept.sides via (subst (λ (n : ℕ). Contains (map side_of kept.sides) n) led.3 among) in
          let s = prepared.sides.each o.0 o.1 in
          let least : IsLeastWay rows (side_of o.0) is.way.0 target = subst (λ (n : ℕ). IsLeastWay rows n is.way.0 target) (sym o.2) is.way.1 in
          let avoids : Avoids rows (side_of o.0) target root = subst (λ (n : ℕ). Avoids rows n target root) (sym o.2) is.avoids in
          let c = way_there rows (side_of o.0) target o.0.distances s.distances is.way.0 least.is in
          let below = avoids_below rows (side_of o.0) target root c.0 o.0.distances kept.root s.distances prepared.from_root c.1 (λ e. other (sym e)) avoids in
          let back = told_back root target hop kept.root from_hop o.0 c.0 (λ e. is.not_hop (sym o.2 ∙ e)) c.1 below in
          let told = told_record target hop from_hop o.0 c.0 in
          subst (λ (n : ℕ). Contains (map via_of (filter_map h kept.sides)) n) o.2 (in_map via_of (filter_map h kept.sides) told (to_kept h kept.sides o.0 told o.1 back));
    }
