-- What the lines of an input come to: the LSPs that are kept, and how many lines were kept and how many
-- skipped (own).

use Rattle.std.specs.Prelude.{◌≡◌, ℕ, ◌+◌, Bool, true, false, List, [], ◌∷◌, Result, Ok, Err}
use Rattle.std.specs.List.{flat_map}
use Rattle.hex.specs.declared.error.FromHexError.{FromHexError}
use Rattle.hex.specs.Hex.{decode_of}
use Rattle.isis_base.specs.declared.level.Level.{Level}
use Rattle.isis_pdu.specs.Decoded.{decoded}
use Rattle.ipv6_reach.specs.declared.took.Took.TheVariants.{Kept}
use Rattle.ipv6_reach.specs.Captured.{took_of, KeepsBy, IsFullBy}
use Rattle.capture_text.specs.declared.read.Read.{Read}

-- before the first line
abbrev pub nothing_read : Level → Read
nothing_read level =
    record { capture = record { level = level; entries = [] }; kept = 0; skipped = 0 }

-- a line more is skipped: nothing but its count changes
abbrev pub IsSkipped : Read → Read → Type 0
IsSkipped old new = new ≡ record old { skipped = old.skipped + 1 }

-- a line more is kept: its LSP stands in the place of what was held of its ID (ISO 10589 7.3.16.1)
pub record IsKept (old : Read) (octets : List ℕ) (new : Read) : Type 0 where
  pub capture : KeepsBy old.capture new.capture octets (decoded octets)
  pub kept : new.kept ≡ old.kept + 1
  pub skipped : new.skipped ≡ old.skipped

-- octets more: kept where they are to be and there is room for them, else skipped
pub record AreOctetsRead (old : Read) (octets : List ℕ) (new : Read) : Type 0 where
  pub kept : took_of old.capture octets ≡ Kept → (IsFullBy old.capture (decoded octets) → ⊥)
      → IsKept old octets new
  pub full : IsFullBy old.capture (decoded octets) → IsSkipped old new
  pub other : (took_of old.capture octets ≡ Kept → ⊥) → IsSkipped old new

-- a line more that isn't empty: it is skipped where it isn't hex
abbrev pub IsHexRead : Read → Result (List ℕ) FromHexError → Read → Type 0
IsHexRead old (Ok octets) new = AreOctetsRead old octets new
IsHexRead old (Err error) new = IsSkipped old new

-- a line more: an empty one changes nothing
abbrev pub IsLineRead : Read → List ℕ → Read → Type 0
IsLineRead old [] new = new ≡ old
IsLineRead old (digit ∷ digits) new = IsHexRead old (decode_of (digit ∷ digits)) new

-- lines more, one after another
abbrev pub AreRead : Read → List (List ℕ) → Read → Type 0
AreRead old [] new = new ≡ old
AreRead old (line ∷ lines) new =
    (next : Read) × IsLineRead old line next × AreRead next lines new

-- ---- what all lines have

-- whether a line has something
abbrev pub is_filled : List ℕ → Bool
is_filled [] = false
is_filled (digit ∷ digits) = true

-- the octets of hex text; none of other text
abbrev pub octets_by : Result (List ℕ) FromHexError → List (List ℕ)
octets_by (Ok octets) = octets ∷ []
octets_by (Err error) = []

abbrev pub octets_of : List ℕ → List (List ℕ)
octets_of [] = []
octets_of (digit ∷ digits) = octets_by (decode_of (digit ∷ digits))

-- the octets of the lines that are hex, in order
abbrev pub octets_in : List (List ℕ) → List (List ℕ)
octets_in lines = flat_map octets_of lines
