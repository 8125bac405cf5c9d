-- Which split is good, and which good one is made: no entry stands in a later TLV or fragment than
-- it must (ISO 10589 7.3.4; the order and the greed: own).
use Rattle.std.specs.Prelude.{◌≡◌, ℕ, ◌+◌, ◌<◌, ◌≤◌, true, false, List, [], ◌∷◌, ◌++◌, length}
use Rattle.std.specs.List.{AllByRecursion}
use Rattle.model_router.specs.Splits.{Item, Split}
use Rattle.model_router.specs.SplitLaws.{value_of}

-- a fragment of these octets, whose last TLV has this code (0 where there is none) and a value of
-- so many octets, has no place for an entry: neither in that TLV nor in one more (own)
pub record HasNoPlace (room : ℕ) (octets : List ℕ) (code size : ℕ) (entry : Item) : Type 0 where
  pub joins : code ≡ entry.code → size + length entry.octets ≤ 255
      → room < length octets + length entry.octets
  pub begins : room < length octets + 2 + length entry.octets

-- what a TLV may say: some entries of one code, of at most 255 octets (9.8)
pub record IsTlv (code : ℕ) (entry : Item) (more : List Item) : Type 0 where
  pub some : 0 < code
  pub coded : AllByRecursion (λ (item : Item). item.code ≡ code) (entry ∷ more)
  pub short : length (value_of (entry ∷ more)) ≤ 255

-- A fragment that begins with `first`, and the entries that it says. Each TLV fits the room, and
-- its first entry has no place in the TLV before it (own).
pub data IsFragment (room : ℕ) (first : List ℕ) : List ℕ → ℕ → ℕ → List Item → Type 0 where
  Bare : IsFragment room first first 0 0 []
  WithTlv : (octets : List ℕ) (code size : ℕ) (items : List Item)
      → IsFragment room first octets code size items
      → (next : ℕ) (entry : Item) (more : List Item) → IsTlv next entry more
      → (code ≡ next → 255 < size + length entry.octets)
      → length octets + 2 + length (value_of (entry ∷ more)) ≤ room
      → IsFragment room first (octets ++ next ∷ length (value_of (entry ∷ more))
      ∷ value_of (entry ∷ more)) next (length (value_of (entry ∷ more))) (items ++ entry ∷ more)

-- Fragments in order, the last one apart, and the entries that they say. The first one begins with
-- `first`, each other one with an entry that has no place in the one before it (own).
pub data AreFragments (room : ℕ) (first : List ℕ) : List (List ℕ) → List ℕ → ℕ → ℕ → List Item
    → Type 0 where
  Single : (octets : List ℕ) (code size : ℕ) (items : List Item)
      → IsFragment room first octets code size items
      → AreFragments room first [] octets code size items
  Another : (done : List (List ℕ)) (octets : List ℕ) (code size : ℕ) (items : List Item)
      → AreFragments room first done octets code size items
      → (last : List ℕ) (next count : ℕ) (entry : Item) (more : List Item)
      → IsFragment room [] last next count (entry ∷ more)
      → HasNoPlace room octets code size entry
      → AreFragments room first (done ++ octets ∷ []) last next count (items ++ entry ∷ more)

-- where entries are left out, the first of them has no place in the last of 256 fragments (own)
pub record IsStop (room : ℕ) (done : List (List ℕ)) (last : List ℕ) (code size : ℕ)
    (rest : List Item) : Type 0 where
  pub entry : Item
  pub more : List Item
  pub is : rest ≡ entry ∷ more
  pub none : HasNoPlace room last code size entry
  pub full : length done ≡ 255

-- a good split: fragments that say the entries in order, each once; all of them in at most 256
-- fragments, or else those that 256 fragments hold (7.3.4)
pub record IsGoodSplit (first : List ℕ) (items : List Item) (room : ℕ) (split : Split)
    : Type 0 where
  pub done : List (List ℕ)
  pub last : List ℕ
  pub code : ℕ
  pub size : ℕ
  pub taken : List Item
  pub rest : List Item
  pub fragments : split.fragments ≡ done ++ last ∷ []
  pub are : AreFragments room first done last code size taken
  pub entries : items ≡ taken ++ rest
  pub few : length done ≤ 255
  pub all : split.whole ≡ true → rest ≡ []
  pub stop : split.whole ≡ false → IsStop room done last code size rest
