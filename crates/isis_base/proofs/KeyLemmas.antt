-- The newer of two keys.
use Rattle.std.proofs.Common.{◌≡◌, ℕ, ◌+◌, ◌*◌, ◌<◌, ◌≤◌, Bool, true, false, cond, Option, Some, None, refl, sym, ap, ◌∙◌, subst, arith, inl, inr}
use Rattle.std.proofs.Props.{props}
use Rattle.std.proofs.lemmas.Bool.{cases_order, lt-ltb, le-ltb}
use Rattle.isis_base.specs.declared.key.Key.{Key}
use Rattle.isis_base.specs.Keys.{rank, join_of}

-- a number, a mark and the fact that the number isn't 0
abbrev keyed : (number : ℕ) (purged : Bool) → 0 < number → Key
keyed n p h = record { number = n; purged = p; numbered = h }

keyed-number : (n m : ℕ) (p : Bool) (h : 0 < n) → n ≡ m → (k : 0 < m) → keyed n p h ≡ keyed m p k
keyed-number n m p h e =
    let family : ℕ → Type 0 = λ (x : ℕ). (k : 0 < x) → keyed n p h ≡ keyed x p k in
    let prop : IsProp (0 < n) = hlevel props in
    subst family e (λ k. ap (keyed n p) (prop h k))

-- keys with one number and one mark are one
pub key-same : (a b : Key) → a.number ≡ b.number → a.purged ≡ b.purged → a ≡ b
key-same a b e f =
    let turned : keyed a.number a.purged a.numbered ≡ keyed a.number b.purged a.numbered = ap (λ (p : Bool). keyed a.number p a.numbered) f in
    turned ∙ keyed-number a.number b.number b.purged a.numbered e b.numbered

ranked-same : (n m : ℕ) (p q : Bool) → 2 * n + cond p 1 0 ≡ 2 * m + cond q 1 0 → (n ≡ m) × (p ≡ q)
ranked-same n m true true e = (omega arith, refl)
ranked-same n m true false e = absurd (omega arith)
ranked-same n m false true e = absurd (omega arith)
ranked-same n m false false e = (omega arith, refl)

-- keys of one rank are one
pub rank-same : (a b : Option Key) → rank a ≡ rank b → a ≡ b
rank-same None None e = refl
rank-same None (Some k) e = absurd (let h = k.numbered in omega arith)
rank-same (Some k) None e = absurd (let h = k.numbered in omega arith)
rank-same (Some k) (Some l) e =
    let r = ranked-same k.number l.number k.purged l.purged e in
    ap Some (key-same k l r.0 r.1)

-- the first of two, where the second isn't newer
join-first : (a b : Option Key) → rank b ≤ rank a → join_of a b ≡ a
join-first a b h = ap (λ (t : Bool). cond t b a) (le-ltb (rank a) (rank b) h)

-- the second of two, where it is newer
join-second : (a b : Option Key) → rank a < rank b → join_of a b ≡ b
join-second a b h = ap (λ (t : Bool). cond t b a) (lt-ltb (rank a) (rank b) h)

pub join-comm : (a b : Option Key) → join_of a b ≡ join_of b a
join-comm a b =
    elim (cases_order (rank a) (rank b)) [
      | inl same ↦ ap (λ (x : Option Key). join_of x b) (rank-same a b same) ∙ ap (λ (x : Option Key). join_of b x) (sym (rank-same a b same))
      | inr (inl below) ↦ join-second a b below ∙ sym (join-first b a (omega arith))
      | inr (inr above) ↦ join-first a b (omega arith) ∙ sym (join-second b a above)
    ]
