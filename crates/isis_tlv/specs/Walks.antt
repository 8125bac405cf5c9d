-- Walks over octets, item by item, up to the end or a fault.
use Rattle.std.specs.Prelude.{ℕ, zero, suc, ◌+◌, List, [], ◌∷◌, length, drop, Option, Some, None, Result, Ok, Err}

module _ {X F : Type 0} where
  -- an item, then the items after it; or a fault, and nothing after it (own)
  abbrev pub before : Result (X × ℕ) F → (ℕ → List (Result X F)) → List (Result X F)
  before (Ok found) after = Ok found.0 ∷ after found.1
  before (Err fault) after = Err fault ∷ []

  -- at most so many items of the octets that begin at a place: `first` gives the item that stands first, with the
  -- number of its octets, or the fault there (own)
  abbrev pub walk : (ℕ → List ℕ → Result (X × ℕ) F) → ℕ → ℕ → List ℕ → List (Result X F)
  walk first zero place octets = []
  walk first (suc n) place [] = []
  walk first (suc n) place (octet ∷ octets) =
      before (first place (octet ∷ octets))
      (λ count. walk first n (place + count) (drop count (octet ∷ octets)))

  -- what the octets read as: items up to the end, or up to a fault, which is the last (own)
  unfoldable pub items_of : (ℕ → List ℕ → Result (X × ℕ) F) → ℕ → List ℕ → List (Result X F)
  items_of first place octets = walk first (length octets) place octets

  -- the fault of what was read, if there is one (own)
  abbrev pub fault_of : List (Result X F) → Option F
  fault_of [] = None
  fault_of (Ok item ∷ items) = fault_of items
  fault_of (Err fault ∷ items) = Some fault
