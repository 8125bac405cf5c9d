-- Lists in order of a key of each item, and as maps from it (own).
use Rattle.std.specs.Prelude.{◌≡◌, ℕ, ◌<◌, ◌≤◌, suc, List, [], ◌∷◌, length, map, take, drop, slice_index_or, Result, MatchResult}

-- a list's items by a key of each
abbrev pub keyed : {X : Type 0} → (X → ℕ) → List X → List (ℕ × X)
keyed key [] = []
keyed key (x ∷ xs) = (key x, x) ∷ keyed key xs

-- a list as pairs of a key and a value of each item
abbrev pub paired : {X V : Type 0} → (X → ℕ) → (X → V) → List X → List (ℕ × V)
paired key value xs = map (λ x. (key x, value x)) xs

-- each key is below n, and each is above it
abbrev pub AllBelow : {X : Type 0} → (X → ℕ) → ℕ → List X → Type 0
AllBelow key n [] = Unit {0}
AllBelow key n (x ∷ xs) = (key x < n) × AllBelow key n xs

abbrev pub AllAbove : {X : Type 0} → (X → ℕ) → ℕ → List X → Type 0
AllAbove key n [] = Unit {0}
AllAbove key n (x ∷ xs) = (n < key x) × AllAbove key n xs

-- the place has the item of this key, with lesser ones before it and greater ones behind it
pub record IsPlace {X : Type 0} (key : X → ℕ) (xs : List X) (n place : ℕ) : Type 0 where
  pub inside : place < length xs
  pub low : AllBelow key n (take place xs)
  pub here : (d : X) → key (slice_index_or xs place d) ≡ n
  pub high : AllAbove key n (drop (suc place) xs)

-- no item has this key: lesser ones are before the place, and greater ones from it on
pub record IsGap {X : Type 0} (key : X → ℕ) (xs : List X) (n place : ℕ) : Type 0 where
  pub inside : place ≤ length xs
  pub low : AllBelow key n (take place xs)
  pub high : AllAbove key n (drop place xs)

-- a place of the item of a key, where it is one of the list, and else where it would go
abbrev pub IsAt : {X : Type 0} → (X → ℕ) → List X → ℕ → Result ℕ ℕ → Type 0
IsAt key xs n place = MatchResult place (IsPlace key xs n) (IsGap key xs n)
