-- What a reader of lines has of its source (own).
use Rattle.std.specs.Prelude.{◌≡◌, ℕ, ◌<◌, Bool, true, List, [], ◌∷◌, ◌++◌, length}
use Rattle.line_cuts.specs.Words.{lines_of}
use Rattle.line_source.specs.declared.lines.LineRead.{LineRead}
use Rattle.line_source.specs.declared.lines.LineRead.TheVariants.{Line, Rest}

-- the octets that were read and not handed out yet, and the line that was handed out last (own)
pub record Reading : Type 0 where
  pub pending : List ℕ
  pub line : List ℕ

-- octets without LF (own)
abbrev pub IsUncut : List ℕ → Type 0
IsUncut octets = lines_of octets ≡ octets ∷ []

-- What a reader handed out, where the source gave these octets more and is at its end or not. A line is the first of what was
-- pending and of these octets, and what is pending has the others. A rest is all of them, without LF, and the source's end (own).
abbrev pub IsGiven : Reading → List ℕ → (ended : Bool) → Reading → LineRead → Type 0
IsGiven old octets ended now Line =
    lines_of (old.pending ++ octets) ≡ now.line ∷ lines_of now.pending
IsGiven old octets ended now Rest =
    (lines_of (old.pending ++ octets) ≡ now.line ∷ []) × (now.pending ≡ []) × (ended ≡ true)

-- the first line of a text has more than 16,777,216 octets (own)
pub record IsTooLong (text : List ℕ) : Type 0 where
  pub line : List ℕ
  pub others : List (List ℕ)
  pub first : lines_of text ≡ line ∷ others
  pub long : 16777216 < length line
