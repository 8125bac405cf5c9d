-- Texts of losses, one behind another, joined to the text of the whole (own).
use Rattle.std.specs.Prelude.{◌≡◌, ℕ, ◌+◌, Bool, true, false, List, [], ◌∷◌, Some, None, Result, Ok, Err, if◌then◌else◌}
use Rattle.line_cuts.specs.Words.{lines_of}
use Rattle.losses_text.specs.declared.joining.LineFault.{LineFault}
use Rattle.losses_text.specs.declared.joining.LineFault.TheVariants as wrong
use Rattle.losses_text.specs.declared.merge_fault.MergeFault.{MergeFault}
use Rattle.losses_text.specs.declared.merge_fault.MergeFault.TheVariants as fault
use Rattle.losses_text.specs.declared.merge_fault.MergeReason.{MergeReason}
use Rattle.losses_text.specs.Joined.{Joined, nothing_read, with_line, whole}
use Rattle.losses_text.specs.LossesText.{losses_text}
use Rattle.losses_text.specs.Said.{Said}

-- what lines come to: what was read of them, or the first that is refused, counted from 1 (own)
pub data Reading : Type 0 where
  Read : (joined : Joined) → Reading
  Refused : (line : ℕ) (reason : MergeReason) → Reading

-- behind the last LF stands nothing
abbrev pub is_end : List ℕ → List (List ℕ) → Bool
is_end [] [] = true
is_end [] (next ∷ lines) = false
is_end (octet ∷ line) lines = false

abbrev pub or_refused : ℕ → Result Joined MergeReason → (Joined → Reading) → Reading
or_refused number (Ok joined) rest = rest joined
or_refused number (Err reason) rest = Refused number reason

-- these lines, the first of this number, behind what was read
unfoldable pub reading_from : Joined → ℕ → List (List ℕ) → Reading
reading_from joined number [] = Read joined
reading_from joined number (line ∷ lines) =
    if is_end line lines then Read joined
    else or_refused number (with_line joined line) (λ joined. reading_from joined (number + 1) lines)

-- the lines of a text, from its first on
abbrev pub reading_of : List ℕ → Reading
reading_of text = reading_from nothing_read 1 (lines_of text)

-- ---- answers

-- texts are read, and say this of the whole
abbrev pub IsWhole : List ℕ → Said → Type 0
IsWhole input said = (joined : Joined) × (reading_of input ≡ Read joined) × (whole joined ≡ Some said)

-- they are read, and aren't the whole texts of all parts
abbrev pub LackPart : List ℕ → Type 0
LackPart input = (joined : Joined) × (reading_of input ≡ Read joined) × (whole joined ≡ None)

-- why texts aren't joined; of want of memory nothing is said
abbrev pub IsNotMerged : List ℕ → MergeFault → Type 0
IsNotMerged input (fault.Refused line reason) = reading_of input ≡ Refused line reason
IsNotMerged input fault.Parts = LackPart input
IsNotMerged input fault.OutOfMemory = Unit {0}

-- why texts aren't joined, where a line has a fault
abbrev pub fault_at : ℕ → LineFault → MergeFault
fault_at line (wrong.Refused reason) = fault.Refused line reason
fault_at line wrong.OutOfMemory = fault.OutOfMemory

-- the text of the whole, or why there is none
abbrev pub Merges : List ℕ → Result (List ℕ) MergeFault → Type 0
Merges input (Ok text) = (said : Said) × IsWhole input said × (text ≡ losses_text said)
Merges input (Err fault) = IsNotMerged input fault
