-- What is put into and aged in tagged neighbours, in all of them and in those that are Up.
use Rattle.std.proofs.Common.{◌≡◌, ℕ, suc, ◌+◌, ◌≤◌, true, false, Bool, List, [], ◌∷◌, length, Option, Some, None, is_some, if◌then◌else◌, refl, ap, ◌∙◌, arith}
use Rattle.std.proofs.lemmas.Bool.Decides.{nat_tests}
use Rattle.model_router.specs.Maps.{find, put, erase}
use Rattle.model_router.specs.Sorted.{RisesFrom}
use Rattle.adjacency.specs.Inside.{tagged, untagged, chosen}
use Rattle.ordered.proofs.MapLemmas.{choose, rises-less, find-above, put-above, erase-above}

pub untagged-tagged : {V : Type 0} (up heard : List (ℕ × V)) → untagged (tagged up heard) ≡ heard
untagged-tagged up [] = refl
untagged-tagged up (p ∷ heard) = ap (λ (m : List _). p ∷ m) (untagged-tagged up heard)

pub length-untagged : {V : Type 0} (q : List (ℕ × (Bool × V))) → length (untagged q) ≡ length q
length-untagged [] = refl
length-untagged (p ∷ q) = ap suc (length-untagged q)

pub chosen-few : {V : Type 0} (q : List (ℕ × (Bool × V))) → length (chosen q) ≤ length q
chosen-few [] = omega arith
chosen-few (p ∷ q) = let h = chosen-few q in grind (arith, nat_tests, h)

pub untagged-rises : {V : Type 0} (q : List (ℕ × (Bool × V))) (least : ℕ) → RisesFrom least q → RisesFrom least (untagged q)
untagged-rises [] least r = tt
untagged-rises (p ∷ q) least r = (r.0, untagged-rises q (p.0 + 1) r.1)

pub chosen-rises : {V : Type 0} (q : List (ℕ × (Bool × V))) (least : ℕ) → RisesFrom least q → RisesFrom least (chosen q)
chosen-rises [] least r = tt
chosen-rises {V} (p ∷ q) least r =
    choose (λ t. RisesFrom {V = V} least (if t then (p.0, p.1.1) ∷ chosen q else chosen q)) p.1.0
    (r.0, chosen-rises q (p.0 + 1) r.1)
    (rises-less (p.0 + 1) least (chosen q) (let h = r.0 in omega (arith, h)) (chosen-rises q (p.0 + 1) r.1))

-- ---- a neighbour is put

pub untagged-put : {V : Type 0} (q : List (ℕ × (Bool × V))) (n : ℕ) (up : Bool) (v : V) → untagged (put q n (up, v)) ≡ put (untagged q) n v
unfolding put
untagged-put [] n up v = refl
untagged-put (p ∷ q) n up v = grind (arith, nat_tests, untagged-put q n up v)

pub chosen-put : {V : Type 0} (q : List (ℕ × (Bool × V))) (least n : ℕ) (v : V) → RisesFrom least q → chosen (put q n (true, v)) ≡ put (chosen q) n v
unfolding put
chosen-put [] least n v r = refl
chosen-put (p ∷ q) least n v r =
    let rises = chosen-rises q (p.0 + 1) r.1 in
    grind (arith, nat_tests, chosen-put q (p.0 + 1) n v r.1, put-above (chosen q) (p.0 + 1) n v, rises)

pub chosen-erase : {V : Type 0} (q : List (ℕ × (Bool × V))) (least n : ℕ) (v : V) → RisesFrom least q → chosen (put q n (false, v)) ≡ erase (chosen q) n
unfolding put erase
chosen-erase [] least n v r = refl
chosen-erase (p ∷ q) least n v r =
    let rises = chosen-rises q (p.0 + 1) r.1 in
    grind (arith, nat_tests, chosen-erase q (p.0 + 1) n v r.1, erase-above (chosen q) (p.0 + 1) n, rises)

-- ---- what is found

-- whether what is found is Up
abbrev pub has_tag : {V : Type 0} → Option (Bool × V) → Bool
has_tag None = false
has_tag (Some t) = t.0

pub find-chosen : {V : Type 0} (q : List (ℕ × (Bool × V))) (least n : ℕ) → RisesFrom least q → is_some (find (chosen q) n) ≡ has_tag (find q n)
find-chosen [] least n r = refl
find-chosen (p ∷ q) least n r =
    let rises = chosen-rises q (p.0 + 1) r.1 in
    grind (arith, nat_tests, find-chosen q (p.0 + 1) n r.1, find-above (chosen q) (p.0 + 1) n, rises)

pub find-untagged : {V : Type 0} (q : List (ℕ × (Bool × V))) (n : ℕ) → is_some (find (untagged q) n) ≡ is_some (find q n)
find-untagged [] n = refl
find-untagged (p ∷ q) n = grind (arith, nat_tests, find-untagged q n)

-- ---- the tags are found again

same-tail : {V : Type 0} (p : ℕ × (Bool × V)) (q : List (ℕ × (Bool × V))) (n : ℕ) → p.0 + 1 ≤ n → find (chosen (p ∷ q)) n ≡ find (chosen q) n
same-tail p q n le = grind (arith, nat_tests, le)

same-head : {V : Type 0} (p : ℕ × (Bool × V)) (q : List (ℕ × (Bool × V))) → RisesFrom (p.0 + 1) q → is_some (find (chosen (p ∷ q)) p.0) ≡ p.1.0
same-head p q r =
    let none = find-above (chosen q) (p.0 + 1) p.0 (omega arith) (chosen-rises q (p.0 + 1) r) in
    grind (arith, nat_tests, none)

tagged-by : {V : Type 0} (q : List (ℕ × (Bool × V))) (least : ℕ) (up : List (ℕ × V)) → RisesFrom least q → ((n : ℕ) → least ≤ n → find up n ≡ find (chosen q) n) → tagged up (untagged q) ≡ q
tagged-by [] least up r same = refl
tagged-by {V} (p ∷ q) least up r same =
    let rest = tagged-by q (p.0 + 1) up r.1 (λ n le. same n (let h = r.0 in omega (arith, h, le)) ∙ same-tail p q n le) in
    let first = ap (λ (o : Option V). is_some o) (same p.0 r.0) ∙ same-head p q r.1 in
    ap (λ (t : Bool). (p.0, (t, p.1.1)) ∷ tagged up (untagged q)) first ∙ ap (λ (m : List (ℕ × (Bool × V))). p ∷ m) rest

pub tagged-reads_back : {V : Type 0} (q : List (ℕ × (Bool × V))) → RisesFrom 0 q → tagged (chosen q) (untagged q) ≡ q
tagged-reads_back q r = tagged-by q 0 (chosen q) r (λ n le. refl)
