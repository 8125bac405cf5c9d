-- Facts of all lists of so many octets, by their octets.
use Rattle.std.proofs.Common.{◌≡◌, ℕ, zero, suc, ◌≤◌, List, [], ◌∷◌, length, arith}

-- a fact of so many octets, and of so many octets and a rest
abbrev pub exactly : ℕ → (List ℕ → Type 0) → Type 0
exactly zero P = P []
exactly (suc n) P = (x : ℕ) → exactly n (λ xs. P (x ∷ xs))

abbrev pub leading : ℕ → (List ℕ → Type 0) → Type 0
leading zero P = (rest : List ℕ) → P rest
leading (suc n) P = (x : ℕ) → leading n (λ xs. P (x ∷ xs))

pub of-exactly : (n : ℕ) (P : List ℕ → Type 0) → exactly n P → (xs : List ℕ) → length xs ≡ n → P xs
of-exactly zero P p [] h = p
of-exactly zero P p (x ∷ xs) h = absurd (omega arith)
of-exactly (suc n) P p [] h = absurd (omega arith)
of-exactly (suc n) P p (x ∷ xs) h = of-exactly n (λ xs. P (x ∷ xs)) (p x) xs (omega arith)

pub of-leading : (n : ℕ) (P : List ℕ → Type 0) → leading n P → (xs : List ℕ) → n ≤ length xs → P xs
of-leading zero P p xs h = p xs
of-leading (suc n) P p [] h = absurd (omega arith)
of-leading (suc n) P p (x ∷ xs) h = of-leading n (λ xs. P (x ∷ xs)) (p x) xs (omega arith)
