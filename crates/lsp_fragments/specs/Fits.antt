-- How many entries 256 fragments hold (ISO 10589 7.3.4; the order of entries: own).
use Rattle.std.specs.Prelude.{◌≡◌, ℕ, suc, ◌+◌, ◌<◌, ◌≤◌, true, false, List, [], ◌∷◌, length, take, Option, Some, None, Result, Ok, Err, if◌then◌else◌}
use Rattle.model_router.specs.Splits.{Item, Draft, holds_more, with_item, split}
use Rattle.lsp_fragments.specs.declared.fault.SplitFault.{SplitFault}
use Rattle.lsp_fragments.specs.declared.fault.SplitFault.TheVariants.{TooMuch, OutOfMemory}

-- a draft with entries put into it, in order; none where 256 fragments don't hold them (own)
abbrev pub put_all : ℕ → Draft → List Item → Option Draft
put_all room d [] = Some d
put_all room d (item ∷ items) =
    if holds_more room d item then put_all room (with_item room d item) items else None

-- how many entries are put in before one doesn't fit (own)
abbrev pub count_put : ℕ → Draft → List Item → ℕ
count_put room d [] = 0
count_put room d (item ∷ items) =
    if holds_more room d item then suc (count_put room (with_item room d item) items) else 0

-- so many of the entries are all that 256 fragments hold: so many are held, as they are where
-- all are split, and no more (7.3.4)
pub record IsFit (first : List ℕ) (items : List Item) (room fit : ℕ) : Type 0 where
  pub part : fit < length items
  pub held : split first (take fit items) room
      ≡ record { fragments = (split first items room).fragments; whole = true }
  pub most : (n : ℕ) → (split first (take n items) room).whole ≡ true → n ≤ fit

-- why entries aren't split: 256 fragments don't hold them all, but so many; or a want of memory
-- (7.3.4)
abbrev pub IsFault : List ℕ → List Item → ℕ → SplitFault → Type 0
IsFault first items room (TooMuch fit) =
    ((split first items room).whole ≡ false) × IsFit first items room fit
IsFault first items room OutOfMemory = Unit {0}

-- a fault of the entries behind so many (own)
abbrev pub fault_behind : ℕ → SplitFault → SplitFault
fault_behind before (TooMuch fit) = TooMuch (before + fit)
fault_behind before OutOfMemory = OutOfMemory

-- own
abbrev pub fit_of : SplitFault → ℕ
fit_of (TooMuch fit) = fit
fit_of OutOfMemory = 0

-- what comes of entries that are put into a draft: the draft with all of them, or how many fit
-- (own)
abbrev pub IsPut : ℕ → Draft → List Item → Result Draft SplitFault → Type 0
IsPut room d items (Ok all) = put_all room d items ≡ Some all
IsPut room d items (Err (TooMuch fit)) =
    (put_all room d items ≡ None) × (fit ≡ count_put room d items)
IsPut room d items (Err OutOfMemory) = Unit {0}
