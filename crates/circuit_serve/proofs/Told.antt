-- Lists that are told, call by call.
use Rattle.std.proofs.Common.{◌≡◌, ℕ, zero, suc, ◌+◌, List, [], ◌∷◌, ◌++◌, length, take, drop, slice_get, Option, Some, sym, refl, ap, ◌∙◌, arith, append-nil, append_assoc}
use Rattle.daemon_edge.specs.Ports.{Adds}

module _ {X : Type 0} where
  pub adds_none : (a : List X) → Adds a a []
  adds_none a = sym (append-nil a)

  pub adds_both : (a b c xs ys : List X) → Adds a b xs → Adds b c ys → Adds a c (xs ++ ys)
  adds_both a b c xs ys one two = two ∙ (ap (λ z. z ++ ys) one ∙ append_assoc a xs ys)

  -- the first so many items, and one more
  pub take_next : (xs : List X) (i : ℕ) (x : X) → slice_get xs i ≡ Some x → take (i + 1) xs ≡ take i xs ++ x ∷ []
  take_next [] i x at = absurd (cc at)
  take_next (y ∷ xs) zero x at = ap (λ z. z ∷ []) (same at)
    where
      same : Some y ≡ Some x → y ≡ x
      same e = cc e
  take_next (y ∷ xs) (suc i) x at = ap (λ n. take n (y ∷ xs)) (let e : suc i + 1 ≡ suc (i + 1) = omega arith in e) ∙ ap (λ z. y ∷ z) (take_next xs i x at)

-- what was lent to be written is written back whole
pub lent : (b o : List ℕ) → length b ≡ length o → take (length o) (b ++ drop (length b) o) ≡ b
lent [] [] same = refl
lent [] (y ∷ o) same = absurd (omega (arith, same))
lent (x ∷ b) [] same = absurd (omega (arith, same))
lent (x ∷ b) (y ∷ o) same = ap (λ z. x ∷ z) (lent b o (omega (arith, same)))
