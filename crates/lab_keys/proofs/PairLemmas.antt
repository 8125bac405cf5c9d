-- Sets of pairs, with one more.
use Rattle.std.proofs.Common.{◌≡◌, ℕ, ◌&&◌, ◌||◌, Bool, true, false, eqb, List, [], ◌∷◌, ◌⊎◌, inl, inr, refl, ap, ◌∙◌, arith}
use Rattle.std.specs.List.{list_any}
use Rattle.std.specs.Ordering.{nat_cmp, match_ordering, ordering_then, is_eq}
use Rattle.std.specs.BTreeSet.{insert_key}
use Rattle.std.specs.declared.cmp.Ordering.{Ordering}
use Rattle.std.specs.declared.cmp.Ordering.TheVariants.{Less, Equal, Greater}
use Rattle.std.proofs.lemmas.Bool.{eqb-true, and_parts, or_cases}
use Rattle.std.proofs.lemmas.Bool.Decides.{nat_tests}
use Rattle.lab_keys.specs.KeysNet.{pair_cmp, has_pair}

or-left : (x y : Bool) → x ≡ true → (x || y) ≡ true
or-left true y e = refl
or-left false y e = cc

or-right : (x y : Bool) → y ≡ true → (x || y) ≡ true
or-right true y e = refl
or-right false y e = e

is-same : (a b : ℕ) → (eqb a a && eqb b b) ≡ true
is-same a b = grind (arith, nat_tests)

then-equal : (o p : Ordering) → ordering_then o p ≡ Equal → (o ≡ Equal) × (p ≡ Equal)
then-equal Less p e = cc
then-equal Equal p e = (refl, e)
then-equal Greater p e = cc

cmp-equal : (a b : ℕ) → nat_cmp a b ≡ Equal → a ≡ b
cmp-equal a b e = grind (arith, nat_tests)

pair-equal : (a b c d : ℕ) → pair_cmp (a, b) (c, d) ≡ Equal → (a ≡ c) × (b ≡ d)
pair-equal a b c d e = let both = then-equal (nat_cmp a c) (nat_cmp b d) e in (cmp-equal a c both.0, cmp-equal b d both.1)

same-pair : (a b c d : ℕ) → (eqb a c && eqb b d) ≡ true → (a ≡ c) × (b ≡ d)
same-pair a b c d e = let p = and_parts (eqb a c) (eqb b d) e in (eqb-true a c p.0, eqb-true b d p.1)

same-test : (a b c d : ℕ) → a ≡ c → b ≡ d → (eqb c a && eqb d b) ≡ true
same-test a b c d e f = grind (arith, nat_tests)

-- a pair that is put in is there
pub has_pair-new : (pairs : List (ℕ × ℕ)) (a b : ℕ) → has_pair (insert_key pair_cmp pairs (a, b)) a b ≡ true
has_pair-new [] a b = or-left _ false (is-same a b)
has_pair-new ((c, d) ∷ pairs) a b = ordered (has_pair-new pairs a b) (pair_cmp (a, b) (c, d)) refl
  where
    ordered : has_pair (insert_key pair_cmp pairs (a, b)) a b ≡ true → (o : Ordering) → pair_cmp (a, b) (c, d) ≡ o → has_pair (match_ordering o ((a, b) ∷ (c, d) ∷ pairs) ((c, d) ∷ pairs) ((c, d) ∷ insert_key pair_cmp pairs (a, b))) a b ≡ true
    ordered rest Less e = or-left _ _ (is-same a b)
    ordered rest Equal e = let same = pair-equal a b c d e in or-left _ _ (same-test a b c d same.0 same.1)
    ordered rest Greater e = or-right _ _ rest

-- and those that were there stay
pub has_pair-kept : (pairs : List (ℕ × ℕ)) (a b c d : ℕ) → has_pair pairs c d ≡ true → has_pair (insert_key pair_cmp pairs (a, b)) c d ≡ true
has_pair-kept [] a b c d h = cc
has_pair-kept ((x, y) ∷ pairs) a b c d h = ordered (has_pair-kept pairs a b c d) (pair_cmp (a, b) (x, y))
  where
    ordered : (has_pair pairs c d ≡ true → has_pair (insert_key pair_cmp pairs (a, b)) c d ≡ true) → (o : Ordering) → has_pair (match_ordering o ((a, b) ∷ (x, y) ∷ pairs) ((x, y) ∷ pairs) ((x, y) ∷ insert_key pair_cmp pairs (a, b))) c d ≡ true
    ordered rest Less = or-right _ _ h
    ordered rest Equal = h
    ordered rest Greater =
        elim (or_cases (eqb x c && eqb y d) (has_pair pairs c d) h) [
          | inl here ↦ or-left _ _ here
          | inr later ↦ or-right _ _ (rest later)
        ]

-- no other pair comes in
pub has_pair-only : (pairs : List (ℕ × ℕ)) (a b c d : ℕ) → has_pair (insert_key pair_cmp pairs (a, b)) c d ≡ true → (has_pair pairs c d ≡ true) ⊎ ((a ≡ c) × (b ≡ d))
has_pair-only [] a b c d h =
    elim (or_cases (eqb a c && eqb b d) false h) [ inl here ↦ inr (same-pair a b c d here) | inr never ↦ cc ]
has_pair-only ((x, y) ∷ pairs) a b c d h = ordered (has_pair-only pairs a b c d) (pair_cmp (a, b) (x, y)) h
  where
    ordered : (has_pair (insert_key pair_cmp pairs (a, b)) c d ≡ true → (has_pair pairs c d ≡ true) ⊎ ((a ≡ c) × (b ≡ d))) → (o : Ordering) → has_pair (match_ordering o ((a, b) ∷ (x, y) ∷ pairs) ((x, y) ∷ pairs) ((x, y) ∷ insert_key pair_cmp pairs (a, b))) c d ≡ true → (has_pair ((x, y) ∷ pairs) c d ≡ true) ⊎ ((a ≡ c) × (b ≡ d))
    ordered rest Less h =
        elim (or_cases (eqb a c && eqb b d) (has_pair ((x, y) ∷ pairs) c d) h) [ inl here ↦ inr (same-pair a b c d here) | inr later ↦ inl later ]
    ordered rest Equal h = inl h
    ordered rest Greater h =
        elim (or_cases (eqb x c && eqb y d) (has_pair (insert_key pair_cmp pairs (a, b)) c d) h) [
          | inl here ↦ inl (or-left _ _ here)
          | inr later ↦ elim (rest later) [ inl old ↦ inl (or-right _ _ old) | inr new ↦ inr new ]
        ]

cmp-same : (a b c d : ℕ) → is_eq (pair_cmp (a, b) (c, d)) ≡ (eqb c a && eqb d b)
cmp-same a b c d = grind (arith, nat_tests)

-- a set that is kept by `pair_cmp` has the pairs of its keys
pub has_pair-from_contains : (pairs : List (ℕ × ℕ)) (a b : ℕ) → list_any (λ p. is_eq (pair_cmp (a, b) p)) pairs ≡ has_pair pairs a b
has_pair-from_contains [] a b = refl
has_pair-from_contains ((c, d) ∷ pairs) a b =
    ap (λ (t : Bool). t || list_any (λ p. is_eq (pair_cmp (a, b) p)) pairs) (cmp-same a b c d) ∙ ap (λ (t : Bool). (eqb c a && eqb d b) || t) (has_pair-from_contains pairs a b)
