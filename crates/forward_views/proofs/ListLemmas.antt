-- What mapped lists contain.
use Rattle.std.proofs.Common.{◌≡◌, List, [], ◌∷◌, map, subst, inl, inr}
use Rattle.std.specs.List.{Contains, flat_map}
use Rattle.std.proofs.lemmas.List.Elements.{Contains-append_left, Contains-append_right, Contains-append_cases}
use Rattle.spf_tree.proofs.SearchLemmas.{contains_first, contains_rest, contains_cases, contains_none}

pub in_map : {X Y : Type 0} (f : X → Y) (xs : List X) (x : X) → Contains xs x → Contains (map f xs) (f x)
in_map f [] x h = absurd (contains_none x h)
in_map f (y ∷ xs) x h =
    elim (contains_cases y x xs h) [
      | inl is ↦ subst (λ z. Contains (map f (y ∷ xs)) (f z)) is (contains_first (f y) (map f xs))
      | inr more ↦ contains_rest (f y) (f x) (map f xs) (in_map f xs x more)
    ]

pub of_map : {X Y : Type 0} (f : X → Y) (xs : List X) (y : Y) → Contains (map f xs) y → (x : X) × Contains xs x × (f x ≡ y)
of_map f [] y h = absurd (contains_none y h)
of_map f (x ∷ xs) y h =
    elim (contains_cases (f x) y (map f xs) h) [
      | inl is ↦ (x, contains_first x xs, is)
      | inr more ↦ let o = of_map f xs y more in (o.0, contains_rest x o.0 xs o.1, o.2)
    ]

pub in_flat_map : {X Y : Type 0} (f : X → List Y) (xs : List X) (x : X) (y : Y) → Contains xs x → Contains (f x) y → Contains (flat_map f xs) y
in_flat_map f [] x y h there = absurd (contains_none x h)
in_flat_map f (z ∷ xs) x y h there =
    elim (contains_cases z x xs h) [
      | inl is ↦ subst (λ w. Contains (f w) y → Contains (flat_map f (z ∷ xs)) y) is (λ at. Contains-append_left (f z) (flat_map f xs) y at) there
      | inr more ↦ Contains-append_right (f z) (flat_map f xs) y (in_flat_map f xs x y more there)
    ]

pub of_flat_map : {X Y : Type 0} (f : X → List Y) (xs : List X) (y : Y) → Contains (flat_map f xs) y → (x : X) × Contains xs x × Contains (f x) y
of_flat_map f [] y h = absurd (contains_none y h)
of_flat_map f (x ∷ xs) y h =
    elim (Contains-append_cases (f x) (flat_map f xs) y h) [
      | inl here ↦ (x, contains_first x xs, here)
      | inr more ↦ let o = of_flat_map f xs y more in (o.0, contains_rest x o.0 xs o.1, o.2)
    ]

pub alone : {X : Type 0} (x y : X) → Contains (x ∷ []) y → x ≡ y
alone x y h = elim (contains_cases x y [] h) [ inl is ↦ is | inr more ↦ absurd (contains_none y more) ]
