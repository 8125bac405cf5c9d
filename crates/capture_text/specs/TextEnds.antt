-- How the writing of a text ends (own).

use Rattle.std.specs.Prelude.{◌≡◌, ◌⊎◌, ℕ, List, Option, Result, Ok, Err}
use Rattle.isis_edge.specs.declared.text.TextFailed.{TextFailed}
use Rattle.isis_edge.specs.declared.text.TextFailed.TheVariants as failed
use Rattle.isis_edge.specs.Told.{Wrote, WrotePrefix}
use Rattle.capture_text.specs.declared.absence.Absence.{Absence}

-- a text of this kind, whatever LSPs lack
abbrev pub IsAny : (Option Absence → List ℕ → Type 0) → List ℕ → Type 0
IsAny IsText text = (absence : Option Absence) × IsText absence text

-- the sink, before and now, holds a whole text of this kind more, and what LSPs lack is answered; where a write
-- failed, a first part of one; where memory ran out, such a part, or no more than before
abbrev pub TextEnds : (Option Absence → List ℕ → Type 0) → (before now : List ℕ)
    → Result (Option Absence) TextFailed → Type 0
TextEnds IsText before now (Ok absence) =
    (text : List ℕ) × IsText absence text × Wrote before now text
TextEnds IsText before now (Err failed.Write) =
    (text : List ℕ) × IsAny IsText text × WrotePrefix before now text
TextEnds IsText before now (Err failed.OutOfMemory) =
    (now ≡ before) ⊎ ((text : List ℕ) × IsAny IsText text × WrotePrefix before now text)
