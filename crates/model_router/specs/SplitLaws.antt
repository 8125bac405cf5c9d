-- The fragments of a split say the entries that are put into them, each once and in order (ISO
-- 10589 7.3.4; the order: own).
use Rattle.std.specs.Prelude.{◌≡◌, ℕ, ◌+◌, ◌<◌, ◌≤◌, true, List, [], ◌∷◌, ◌++◌, length}
use Rattle.std.specs.List.{AllByRecursion}
use Rattle.model_router.specs.Splits.{Item, Split}

-- an entry that fits a TLV, and with it a fragment (own)
pub record IsSmall (room : ℕ) (item : Item) : Type 0 where
  pub code : 0 < item.code
  pub value : length item.octets ≤ 255
  pub fits : 2 + length item.octets ≤ room

-- the octets of entries, one behind the other (own)
abbrev pub value_of : List Item → List ℕ
value_of [] = []
value_of (item ∷ items) = item.octets ++ value_of items

-- TLVs that say entries in order: each TLV has entries of its code, and at most 255 octets (own)
pub data Says : List ℕ → List Item → Type 0 where
  Silent : Says [] []
  Tlv : (octets : List ℕ) (items : List Item) → Says octets items → (code : ℕ) (entries : List Item)
      → AllByRecursion (λ (item : Item). item.code ≡ code) entries → length (value_of entries) ≤ 255
      → Says (octets ++ code ∷ length (value_of entries) ∷ value_of entries) (items ++ entries)

-- fragments that say entries in order; the first one begins with `first` (own)
pub data SayAll (first : List ℕ) : List (List ℕ) → List Item → Type 0 where
  Sole : (octets : List ℕ) (items : List Item) → Says octets items
      → SayAll first ((first ++ octets) ∷ []) items
  More : (fragments : List (List ℕ)) (items : List Item) → SayAll first fragments items
      → (octets : List ℕ) (more : List Item)
      → Says octets more → SayAll first (fragments ++ octets ∷ []) (items ++ more)

-- the fragments say the entries up to the first that doesn't fit; all of them where the split is
-- whole (own)
pub record SaysEntries (first : List ℕ) (items : List Item) (split : Split) : Type 0 where
  pub taken : List Item
  pub rest : List Item
  pub entries : items ≡ taken ++ rest
  pub says : SayAll first split.fragments taken
  pub all : split.whole ≡ true → rest ≡ []
