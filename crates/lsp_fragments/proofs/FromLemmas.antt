-- What stands from a number on in a list in order.
use Rattle.std.proofs.Common.{◌≡◌, ℕ, zero, suc, ◌+◌, List, [], ◌∷◌, drop, refl, arith}
use Rattle.std.proofs.lemmas.Bool.Decides.{nat_tests}
use Rattle.ordered.specs.Keyed.{keyed, AllAbove, IsPlace, IsGap}
use Rattle.lsp_fragments.specs.Kept.{issued_from}

module _ {X : Type 0} (key : X → ℕ) where
  from-above : (xs : List X) (n : ℕ) → AllAbove key n xs → issued_from n (keyed key xs) ≡ keyed key xs
  from-above [] n a = refl
  from-above (x ∷ xs) n a = let h = a.0 in grind (arith, nat_tests, h)

  pub from-place : (xs : List X) (n i : ℕ) → IsPlace key xs n i → issued_from n (keyed key xs) ≡ keyed key (drop i xs)
  from-place [] n i at = absurd (let h = at.inside in omega (arith, h))
  from-place (x ∷ xs) n zero at = let h = at.here x in grind (arith, nat_tests, h)
  from-place (x ∷ xs) n (suc i) at =
      let h = at.low.0 in
      let rest : IsPlace key xs n i = record { inside = (let k = at.inside in omega (arith, k)); low = at.low.1; here = at.here; high = at.high } in
      grind (arith, nat_tests, h, from-place xs n i rest)

  pub from-gap : (xs : List X) (n i : ℕ) → IsGap key xs n i → issued_from n (keyed key xs) ≡ keyed key (drop i xs)
  from-gap [] n zero gap = refl
  from-gap [] n (suc i) gap = refl
  from-gap (x ∷ xs) n zero gap = from-above (x ∷ xs) n gap.high
  from-gap (x ∷ xs) n (suc i) gap =
      let h = gap.low.0 in
      let rest : IsGap key xs n i = record { inside = (let k = gap.inside in omega (arith, k)); low = gap.low.1; high = gap.high } in
      grind (arith, nat_tests, h, from-gap xs n i rest)

  from-over : (xs : List X) (n : ℕ) → AllAbove key n xs → issued_from (n + 1) (keyed key xs) ≡ keyed key xs
  from-over [] n a = refl
  from-over (x ∷ xs) n a = let h = a.0 in grind (arith, nat_tests, h)

  pub above-place : (xs : List X) (n i : ℕ) → IsPlace key xs n i → issued_from (n + 1) (keyed key xs) ≡ keyed key (drop (suc i) xs)
  above-place [] n i at = absurd (let h = at.inside in omega (arith, h))
  above-place (x ∷ xs) n zero at = let h = at.here x in grind (arith, nat_tests, h, from-over xs n at.high)
  above-place (x ∷ xs) n (suc i) at =
      let h = at.low.0 in
      let rest : IsPlace key xs n i = record { inside = (let k = at.inside in omega (arith, k)); low = at.low.1; here = at.here; high = at.high } in
      grind (arith, nat_tests, h, above-place xs n i rest)

  pub above-gap : (xs : List X) (n i : ℕ) → IsGap key xs n i → issued_from (n + 1) (keyed key xs) ≡ keyed key (drop i xs)
  above-gap [] n zero gap = refl
  above-gap [] n (suc i) gap = refl
  above-gap (x ∷ xs) n zero gap = from-over (x ∷ xs) n gap.high
  above-gap (x ∷ xs) n (suc i) gap =
      let h = gap.low.0 in
      let rest : IsGap key xs n i = record { inside = (let k = gap.inside in omega (arith, k)); low = gap.low.1; high = gap.high } in
      grind (arith, nat_tests, h, above-gap xs n i rest)
