-- What merged ranges cover.
use Rattle.std.proofs.Common.{◌≡◌, Bool, true, false, if◌then◌else◌, ℕ, ◌+◌, ◌-◌, ◌^◌, ◌≤◌, ◌<◌, nat_lt, ◌||◌, List, [], ◌∷◌, length, get_or, refl, ap, ◌∙◌, arith}
use Rattle.std.proofs.lemmas.Bool.Decides.{nat_tests}
use Rattle.snp_exchange.specs.Sweeps.{in_range, covers, AreApart, lesser, greater, merge, merged}

less-least : (a b : ℕ) (rs : List (ℕ × ℕ)) → a ≤ b → AreApart b rs → AreApart a rs
less-least a b [] le r = tt
less-least a b (x ∷ rs) le r = (let h = r.0 in omega (arith, h, le), r.1, r.2)

-- two ranges that meet or touch cover what one does from the lesser start to the greater end
touching : (a b s e n : ℕ) → a ≤ b → s ≤ e → nat_lt (b + 1) s ≡ false → nat_lt (e + 1) a ≡ false → in_range (lesser a s) (greater b e) n ≡ (in_range a b n || in_range s e n)
touching a b s e n ab se p q = grind (arith, nat_tests, ab, se, p, q)

or-turn : (a b c : Bool) → (a || (b || c)) ≡ ((b || c) || a)
or-turn true true c = refl
or-turn true false true = refl
or-turn true false false = refl
or-turn false true c = refl
or-turn false false true = refl
or-turn false false false = refl

or-assoc : (a b c : Bool) → (a || (b || c)) ≡ ((a || b) || c)
or-assoc true b c = refl
or-assoc false b c = refl

or-swap : (a b c : Bool) → (b || (a || c)) ≡ ((a || b) || c)
or-swap true true c = refl
or-swap true false c = refl
or-swap false true c = refl
or-swap false false c = refl

merge-covers : (rs : List (ℕ × ℕ)) (least s e n : ℕ) → s ≤ e → AreApart least rs → covers (merge rs s e) n ≡ (covers rs n || in_range s e n)
merge-covers [] least s e n le r = or-turn (in_range s e n) false false
merge-covers (x ∷ rs) least s e n le r = cases (nat_lt (x.1 + 1) s) (nat_lt (e + 1) x.0) refl refl
    (merge-covers rs (x.1 + 2) s e n le r.2)
    (merge-covers rs (x.1 + 2) (lesser x.0 s) (greater x.1 e) n (let h = r.1 in grind (arith, nat_tests, h, le)) r.2)
  where
    cases : (t u : Bool) → nat_lt (x.1 + 1) s ≡ t → nat_lt (e + 1) x.0 ≡ u
        → covers (merge rs s e) n ≡ (covers rs n || in_range s e n)
        → covers (merge rs (lesser x.0 s) (greater x.1 e)) n ≡ (covers rs n || in_range (lesser x.0 s) (greater x.1 e) n)
        → covers (if t then x ∷ merge rs s e else (if u then (s, e) ∷ x ∷ rs else merge rs (lesser x.0 s) (greater x.1 e))) n ≡ ((in_range x.0 x.1 n || covers rs n) || in_range s e n)
    cases true u p q f g = ap (λ (t : Bool). in_range x.0 x.1 n || t) f ∙ or-assoc (in_range x.0 x.1 n) (covers rs n) (in_range s e n)
    cases false true p q f g = or-turn (in_range s e n) (in_range x.0 x.1 n) (covers rs n)
    cases false false p q f g =
        g ∙ ap (λ (t : Bool). covers rs n || t) (touching x.0 x.1 s e n r.1 le p q) ∙ or-swap (in_range x.0 x.1 n) (covers rs n) (in_range s e n)

merge-apart : (rs : List (ℕ × ℕ)) (least s e : ℕ) → least ≤ s → s ≤ e → AreApart least rs → AreApart least (merge rs s e)
merge-apart [] least s e low le r = (low, le, tt)
merge-apart (x ∷ rs) least s e low le r = cases (nat_lt (x.1 + 1) s) (nat_lt (e + 1) x.0) refl refl
    (λ lt. merge-apart rs (x.1 + 2) s e lt le r.2)
    (merge-apart rs least (lesser x.0 s) (greater x.1 e) (let h = r.0 in grind (arith, nat_tests, h, low)) (let h = r.1 in grind (arith, nat_tests, h, le))
    (less-least least (x.1 + 2) rs (let h = r.0 in let k = r.1 in omega (arith, h, k)) r.2))
  where
    cases : (t u : Bool) → nat_lt (x.1 + 1) s ≡ t → nat_lt (e + 1) x.0 ≡ u
        → (x.1 + 2 ≤ s → AreApart (x.1 + 2) (merge rs s e))
        → AreApart least (merge rs (lesser x.0 s) (greater x.1 e))
        → AreApart least (if t then x ∷ merge rs s e else (if u then (s, e) ∷ x ∷ rs else merge rs (lesser x.0 s) (greater x.1 e)))
    cases true u p q f g = (r.0, r.1, f (grind (arith, nat_tests, p)))
    cases false true p q f g = (low, le, (grind (arith, nat_tests, q), r.1, r.2))
    cases false false p q f g = g

pub merged-covers : (rs : List (ℕ × ℕ)) (s e n : ℕ) → AreApart 0 rs → covers (merged rs s e) n ≡ (covers rs n || in_range s e n)
merged-covers rs s e n r = cases (nat_lt e s) refl
  where
    none : (c : Bool) → nat_lt e s ≡ true → c ≡ (c || in_range s e n)
    none true p = refl
    none false p = grind (arith, nat_tests, p)

    cases : (t : Bool) → nat_lt e s ≡ t → covers (if t then rs else merge rs s e) n ≡ (covers rs n || in_range s e n)
    cases true p = none (covers rs n) p
    cases false p = merge-covers rs 0 s e n (grind (arith, nat_tests, p)) r

pub merged-apart : (rs : List (ℕ × ℕ)) (s e : ℕ) → AreApart 0 rs → AreApart 0 (merged rs s e)
merged-apart rs s e r = cases (nat_lt e s) refl
  where
    cases : (t : Bool) → nat_lt e s ≡ t → AreApart 0 (if t then rs else merge rs s e)
    cases true p = r
    cases false p = merge-apart rs 0 s e (omega arith) (grind (arith, nat_tests, p)) r

-- ---- all, or one that is missing

-- nothing below the first range is covered
pub below-covers : (rs : List (ℕ × ℕ)) (least n : ℕ) → n < least → AreApart least rs → covers rs n ≡ false
below-covers [] least n lt r = refl
below-covers (x ∷ rs) least n lt r =
    let h = r.0 in
    let k = r.1 in
    let rest = below-covers rs (x.1 + 2) n (omega (arith, h, k, lt)) r.2 in
    grind (arith, nat_tests, h, k, lt, rest)

-- the number behind a range isn't covered
pub behind-covers : (x : ℕ × ℕ) (rs : List (ℕ × ℕ)) (least : ℕ) → AreApart least (x ∷ rs) → covers (x ∷ rs) (x.1 + 1) ≡ false
behind-covers x rs least r =
    let rest = below-covers rs (x.1 + 2) (x.1 + 1) (omega arith) r.2 in
    grind (arith, nat_tests, rest)

pub first-covers : (x : ℕ × ℕ) (rs : List (ℕ × ℕ)) (n : ℕ) → x.0 ≤ n → n ≤ x.1 → covers (x ∷ rs) n ≡ true
first-covers x rs n low high = grind (arith, nat_tests, low, high)

pub missing-first : (rs : List (ℕ × ℕ)) (d : ℕ × ℕ) → AreApart 0 rs → 1 ≤ length rs → 0 < (get_or rs 0 d).0 → (n : ℕ) × (n < 2 ^ 64) × (covers rs n ≡ false)
missing-first [] d r some lt = absurd (omega (arith, some))
missing-first (x ∷ rs) d r some lt = (0, omega arith, below-covers (x ∷ rs) x.0 0 lt (omega arith, r.1, r.2))

pub missing-next : (rs : List (ℕ × ℕ)) (d : ℕ × ℕ) → AreApart 0 rs → 1 ≤ length rs → (get_or rs 0 d).1 < 2 ^ 64 - 1 → (n : ℕ) × (n < 2 ^ 64) × (covers rs n ≡ false)
missing-next [] d r some lt = absurd (omega (arith, some))
missing-next (x ∷ rs) d r some lt = (x.1 + 1, omega (arith, lt), behind-covers x rs 0 r)
