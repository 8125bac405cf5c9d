-- Groups that are compared place by place.
use Rattle.std.proofs.Common.{◌≡◌, ℕ, zero, suc, ◌+◌, ◌<◌, ◌≤◌, Bool, true, false, ◌&&◌, List, [], ◌∷◌, length, drop, slice_get, refl, sym, ap, ◌∙◌, arith}
use Rattle.std.specs.Str.{bytes_eq}
use Rattle.lab_losses.specs.Alike.{are_alike, alike_at}

pub lengths-differ : (xs ys : List (List ℕ)) → (length xs ≡ length ys → ⊥) → false ≡ are_alike xs ys
lengths-differ [] [] n = absurd (n refl)
lengths-differ [] (y ∷ ys) n = refl
lengths-differ (x ∷ xs) [] n = refl
lengths-differ (x ∷ xs) (y ∷ ys) n = by (bytes_eq x y) (lengths-differ xs ys (λ e. n (omega (arith, e))))
  where
    by : (b : Bool) → false ≡ are_alike xs ys → false ≡ (b && are_alike xs ys)
    by true e = e
    by false e = refl

step : (xs ys : List (List ℕ)) (place : ℕ) → place < length xs → length xs ≡ length ys
    → are_alike (drop place xs) (drop place ys) ≡ (alike_at (slice_get xs place) (slice_get ys place) && are_alike (drop (place + 1) xs) (drop (place + 1) ys))
step [] ys place h e = absurd (omega (arith, h))
step (x ∷ xs) [] place h e = absurd (omega (arith, e))
step (x ∷ xs) (y ∷ ys) zero h e = refl
step (x ∷ xs) (y ∷ ys) (suc place) h e =
    let up : suc place + 1 ≡ suc (place + 1) = omega arith in
    step xs ys place (omega (arith, h)) (omega (arith, e))
    ∙ sym (ap (λ (n : ℕ). alike_at (slice_get xs place) (slice_get ys place) && are_alike (drop n (x ∷ xs)) (drop n (y ∷ ys))) up)

pub alike-on : (xs ys : List (List ℕ)) (place : ℕ) (b : Bool) → place < length xs → length xs ≡ length ys → b ≡ alike_at (slice_get xs place) (slice_get ys place) → b ≡ true
    → are_alike (drop place xs) (drop place ys) ≡ are_alike xs ys → are_alike (drop (place + 1) xs) (drop (place + 1) ys) ≡ are_alike xs ys
alike-on xs ys place b h e is t i =
    sym (step xs ys place h e ∙ ap (λ (c : Bool). c && are_alike (drop (place + 1) xs) (drop (place + 1) ys)) (sym is ∙ t)) ∙ i

pub alike-not : (xs ys : List (List ℕ)) (place : ℕ) (b : Bool) → place < length xs → length xs ≡ length ys → b ≡ alike_at (slice_get xs place) (slice_get ys place) → b ≡ false
    → are_alike (drop place xs) (drop place ys) ≡ are_alike xs ys → false ≡ are_alike xs ys
alike-not xs ys place b h e is f i =
    sym (step xs ys place h e ∙ ap (λ (c : Bool). c && are_alike (drop (place + 1) xs) (drop (place + 1) ys)) (sym is ∙ f)) ∙ i

none : (xs : List (List ℕ)) (place : ℕ) → length xs ≤ place → drop place xs ≡ []
none [] zero h = refl
none [] (suc place) h = refl
none (x ∷ xs) zero h = absurd (omega (arith, h))
none (x ∷ xs) (suc place) h = none xs place (omega (arith, h))

pub alike-end : (xs ys : List (List ℕ)) (place : ℕ) → length xs ≤ place → length xs ≡ length ys → are_alike (drop place xs) (drop place ys) ≡ are_alike xs ys → true ≡ are_alike xs ys
alike-end xs ys place h e i =
    sym (ap (λ (zs : List (List ℕ)). are_alike zs (drop place ys)) (none xs place h) ∙ ap (are_alike []) (none ys place (omega (arith, h, e)))) ∙ i
