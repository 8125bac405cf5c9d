-- Which routers agree: the groups of routers that joined pairs connect (own).
use Rattle.std.specs.Prelude.{◌≡◌, ℕ, ◌+◌, ◌≤◌, ◌⊎◌, Bool, true, List, [], ◌∷◌, slice_get, Some}

-- an item stands in a list
abbrev pub In : {X : Type 0} → X → List X → Type 0
In x [] = ⊥
In x (y ∷ ys) = (x ≡ y) ⊎ In x ys

-- a router takes part: it runs the level
abbrev pub TakesPart : List Bool → ℕ → Type 0
TakesPart runs r = slice_get runs r ≡ Some true

-- two routers that take part, which a pair joins, in either order
pub record AreJoined (runs : List Bool) (pairs : List (ℕ × ℕ)) (a b : ℕ) : Type 0 where
  pub near : TakesPart runs a
  pub far : TakesPart runs b
  pub pair : In (a, b) pairs ⊎ In (b, a) pairs

-- a chain from one router over others to another, each joined with the next
abbrev pub IsChain : List Bool → List (ℕ × ℕ) → ℕ → List ℕ → ℕ → Type 0
IsChain runs pairs a [] b = a ≡ b
IsChain runs pairs a (next ∷ more) b = AreJoined runs pairs a next × IsChain runs pairs next more b

-- a chain leads from one router to another, or they are the same
abbrev pub Leads : List Bool → List (ℕ × ℕ) → ℕ → ℕ → Type 0
Leads runs pairs a b = (over : List ℕ) × IsChain runs pairs a over b

-- numbers rise from a least one on
abbrev pub Rises : ℕ → List ℕ → Type 0
Rises least [] = Unit {0}
Rises least (n ∷ ns) = (least ≤ n) × Rises (n + 1) ns

-- no group is empty, the routers of each rise, and their first ones rise from a least one on
abbrev pub AreOrdered : ℕ → List (List ℕ) → Type 0
AreOrdered least [] = Unit {0}
AreOrdered least ([] ∷ groups) = ⊥
AreOrdered least ((first ∷ more) ∷ groups) =
    (least ≤ first) × Rises (first + 1) more × AreOrdered (first + 1) groups

-- The groups of the routers that take part, in order: each of these is in one, the routers of a
-- group are led to from each other, and no group leaves out a router that is led to from it.
pub record AreGroups (runs : List Bool) (pairs : List (ℕ × ℕ))
    (groups : List (List ℕ)) : Type 0 where
  pub order : AreOrdered 0 groups
  pub members : (group : List ℕ) (r : ℕ) → In group groups → In r group → TakesPart runs r
  pub all : (r : ℕ) → TakesPart runs r → (group : List ℕ) × In group groups × In r group
  pub led : (group : List ℕ) (a b : ℕ) → In group groups → In a group → In b group
      → Leads runs pairs a b
  pub largest : (group : List ℕ) (a b : ℕ) → In group groups → In a group
      → Leads runs pairs a b → In b group
