-- Prefixes of one address and length are one.
use Rattle.std.proofs.Common.{◌≡◌, ℕ, ◌-◌, ◌%◌, ◌^◌, ◌<◌, ◌≤◌, Bool, true, false, eqb, leb, Option, Some, None, refl, sym, ap, ◌∙◌, subst, arith}
use Rattle.std.proofs.Props.{props}
use Rattle.std.proofs.lemmas.Bool.{leb-true, le-leb, eqb-true, eq-eqb, false≢true}
use Rattle.isis_base.specs.declared.prefix.Prefix.{Prefix}
use Rattle.isis_base.specs.Prefixes.{where_true, prefix_from}

abbrev made : (address length : ℕ) → length ≤ 32 → address % 2 ^ (32 - length) ≡ 0 → Prefix
made address length fits clear = record { address = address; length = length; fits = fits; clear = clear }

made-one : (a n : ℕ) (f g : n ≤ 32) (c d : a % 2 ^ (32 - n) ≡ 0) → made a n f c ≡ made a n g d
made-one a n f g c d =
    let short : IsProp (n ≤ 32) = hlevel props in
    let clear : IsProp (a % 2 ^ (32 - n) ≡ 0) = hlevel props in
    λ i. made a n (short f g i) (clear c d i)

made-length : (a n m : ℕ) (f : n ≤ 32) (c : a % 2 ^ (32 - n) ≡ 0) → n ≡ m → (g : m ≤ 32) (d : a % 2 ^ (32 - m) ≡ 0) → made a n f c ≡ made a m g d
made-length a n m f c e =
    let family : ℕ → Type 0 = λ (x : ℕ). (g : x ≤ 32) (d : a % 2 ^ (32 - x) ≡ 0) → made a n f c ≡ made a x g d in
    subst family e (λ g d. made-one a n f g c d)

made-address : (a b n m : ℕ) (f : n ≤ 32) (c : a % 2 ^ (32 - n) ≡ 0) → a ≡ b → n ≡ m → (g : m ≤ 32) (d : b % 2 ^ (32 - m) ≡ 0) → made a n f c ≡ made b m g d
made-address a b n m f c e k =
    let family : ℕ → Type 0 = λ (x : ℕ). (g : m ≤ 32) (d : x % 2 ^ (32 - m) ≡ 0) → made a n f c ≡ made x m g d in
    subst family e (λ g d. made-length a n m f c k g d)

-- prefixes of one address and length are one
pub prefix-same : (a b : Prefix) → a.address ≡ b.address → a.length ≡ b.length → a ≡ b
prefix-same a b e k = made-address a.address b.address a.length b.length a.fits a.clear e k b.fits b.clear

where_true-holds : {A : Type 0} (t : Bool) (after : t ≡ true → Option A) (h : t ≡ true) (x : A) → ((k : t ≡ true) → after k ≡ Some x) → where_true t after ≡ Some x
where_true-holds true after h x e = e refl
where_true-holds false after h x e = absurd (false≢true h)

where_true-not : {A : Type 0} (t : Bool) (after : t ≡ true → Option A) → t ≡ false → where_true t after ≡ None
where_true-not true after h = absurd (false≢true (sym h))
where_true-not false after h = refl

where_true-none : {A : Type 0} (t : Bool) (after : t ≡ true → Option A) → ((k : t ≡ true) → after k ≡ None) → where_true t after ≡ None
where_true-none true after e = e refl
where_true-none false after e = refl

-- a prefix is that of its address and length
pub prefix_from-prefix : (prefix : Prefix) (address length : ℕ) → prefix.address ≡ address → prefix.length ≡ length → prefix_from address length ≡ Some prefix
unfolding prefix_from
prefix_from-prefix prefix address length e k =
    let short : length ≤ 32 = subst (λ (n : ℕ). n ≤ 32) k prefix.fits in
    let clear : address % 2 ^ (32 - length) ≡ 0 = subst (λ (n : ℕ). address % 2 ^ (32 - n) ≡ 0) k (subst (λ (n : ℕ). n % 2 ^ (32 - prefix.length) ≡ 0) e prefix.clear) in
    where_true-holds (leb length 32) _ (le-leb length 32 short) prefix (λ s.
    where_true-holds (eqb (address % 2 ^ (32 - length)) 0) _ (eq-eqb (address % 2 ^ (32 - length)) 0 clear) prefix (λ t.
    ap Some (prefix-same (made address length (leb-true length 32 s) (eqb-true (address % 2 ^ (32 - length)) 0 t)) prefix (sym e) (sym k))))

-- none is above 32 bits long
pub prefix_from-long : (address length : ℕ) → 32 < length → prefix_from address length ≡ None
unfolding prefix_from
prefix_from-long address length h = where_true-none (leb length 32) _ (λ s. absurd (let short = leb-true length 32 s in omega arith))

-- none has a bit past its length
pub prefix_from-bits : (address length : ℕ) → (address % 2 ^ (32 - length) ≡ 0 → ⊥) → prefix_from address length ≡ None
unfolding prefix_from
prefix_from-bits address length h =
    where_true-none (leb length 32) _ (λ s. where_true-none (eqb (address % 2 ^ (32 - length)) 0) _ (λ t. absurd (h (eqb-true (address % 2 ^ (32 - length)) 0 t))))
