-- The lines of texts, read one after another.
use Rattle.std.proofs.Common.{◌≡◌, ◌∙◌, ℕ, ◌+◌, Bool, true, false, cond, List, [], ◌∷◌, refl, sym, ap}
use Rattle.std.specs.Prelude.{Result, Ok, Err}
use Rattle.losses_text.specs.declared.merge_fault.MergeReason.{MergeReason}
use Rattle.losses_text.specs.declared.joining.LineFault.{LineFault}
use Rattle.losses_text.specs.declared.joining.LineFault.TheVariants as wrong
use Rattle.losses_text.specs.Joined.{Joined, Takes, with_line}
use Rattle.losses_text.specs.Merging.{Reading, Read, IsNotMerged, fault_at, is_end, or_refused, reading_from, reading_of}

-- the first of the lines that are left
first-line : (joined : Joined) (number : ℕ) (all rest : List (List ℕ)) (line : List ℕ) (over : Bool) → all ≡ line ∷ rest → is_end line rest ≡ over
    → reading_from joined number all ≡ cond {A = Reading} over (Read joined) (or_refused number (with_line joined line) (λ (j : Joined). reading_from j (number + 1) rest))
unfolding reading_from
first-line joined number all rest line over e is =
    ap (reading_from joined number) e
    ∙ ap (λ (t : Bool). cond {A = Reading} t (Read joined) (or_refused number (with_line joined line) (λ (j : Joined). reading_from j (number + 1) rest))) is

-- a line that is taken
pub line-taken : (old new : Joined) (number : ℕ) (all rest : List (List ℕ)) (line : List ℕ) → all ≡ line ∷ rest → is_end line rest ≡ false
    → with_line old line ≡ Ok new → reading_from new (number + 1) rest ≡ reading_from old number all
line-taken old new number all rest line e more is =
    sym (first-line old number all rest line false e more ∙ ap (λ (r : Result Joined MergeReason). or_refused number r (λ (j : Joined). reading_from j (number + 1) rest)) is)

-- a line that isn't taken
pub line-refused : (old new : Joined) (number : ℕ) (all rest : List (List ℕ)) (line input : List ℕ) (fault : LineFault) → all ≡ line ∷ rest → is_end line rest ≡ false
    → reading_from old number all ≡ reading_of input → Takes (with_line old line) new (Err fault) → IsNotMerged input (fault_at number fault)
line-refused old new number all rest line input (wrong.Refused reason) e more read is =
    sym read ∙ first-line old number all rest line false e more ∙ ap (λ (r : Result Joined MergeReason). or_refused number r (λ (j : Joined). reading_from j (number + 1) rest)) is
line-refused old new number all rest line input wrong.OutOfMemory e more read is = tt

-- the empty line behind the last LF
pub end-read : (joined : Joined) (number : ℕ) (all rest : List (List ℕ)) (line : List ℕ) → all ≡ line ∷ rest → is_end line rest ≡ true
    → reading_from joined number all ≡ Read joined
end-read joined number all rest line e over = first-line joined number all rest line true e over

-- no line is left
pub none-left : (joined : Joined) (number : ℕ) (all : List (List ℕ)) → all ≡ [] → reading_from joined number all ≡ Read joined
unfolding reading_from
none-left joined number all e = ap (reading_from joined number) e

-- where lines follow, it isn't the end
pub not-end : (line : List ℕ) (lines : List (List ℕ)) → (lines ≡ [] → ⊥) → is_end line lines ≡ false
not-end [] [] some = absurd (some refl)
not-end [] (next ∷ lines) some = refl
not-end (octet ∷ line) lines some = refl
