-- Lines that begin an input, where more octets are read.
use Rattle.std.proofs.Common.{◌≡◌, ◌∙◌, ℕ, Bool, true, List, [], ◌∷◌, ◌++◌, sym, ap, subst}
use Rattle.std.proofs.lemmas.List.{append_assoc}
use Rattle.line_cuts.specs.Words.{lines_of}
use Rattle.line_source.specs.declared.lines.LineRead.{LineRead}
use Rattle.line_source.specs.declared.lines.LineRead.TheVariants.{Line, Rest}
use Rattle.line_source.specs.Lines.{Reading, IsGiven, IsUncut}
use Rattle.line_source.proofs.CutLemmas.{first-uncut}
use Rattle.line_source.proofs.MoreLemmas.{more-behind}
use Rattle.state_replay.specs.Inputs.{Begins}

pub begins-more : (input rest more : List ℕ) (lines : List (List ℕ)) → Begins input lines rest → Begins (input ++ more) lines (rest ++ more)
begins-more input rest more lines b = more-behind input rest more lines b

-- a line more
pub begins-line : (input rest more line behind : List ℕ) (lines : List (List ℕ)) → Begins input lines rest → lines_of (rest ++ more) ≡ line ∷ lines_of behind
    → Begins (input ++ more) (lines ++ line ∷ []) behind
begins-line input rest more line behind lines b e =
    begins-more input rest more lines b
    ∙ (ap (λ (ls : List (List ℕ)). lines ++ ls) e ∙ sym (append_assoc lines (line ∷ []) (lines_of behind)))

-- what stands behind the last LF
pub begins-rest : (input rest more line : List ℕ) (lines : List (List ℕ)) → Begins input lines rest → lines_of (rest ++ more) ≡ line ∷ []
    → Begins (input ++ more) lines line × IsUncut line
begins-rest input rest more line lines b e =
    let uncut : IsUncut line = first-uncut (rest ++ more) line [] e in
    (begins-more input rest more lines b ∙ ap (λ (ls : List (List ℕ)). lines ++ ls) (e ∙ sym uncut), uncut)

-- what a reader handed out, as a line and as a rest
pub as-line : (old now : Reading) (octets : List ℕ) (ended : Bool) (read : LineRead) → read ≡ Line → IsGiven old octets ended now read
    → lines_of (old.pending ++ octets) ≡ now.line ∷ lines_of now.pending
as-line old now octets ended read is given = subst (IsGiven old octets ended now) is given

pub as-rest : (old now : Reading) (octets : List ℕ) (ended : Bool) (read : LineRead) → read ≡ Rest → IsGiven old octets ended now read
    → (lines_of (old.pending ++ octets) ≡ now.line ∷ []) × (now.pending ≡ []) × (ended ≡ true)
as-rest old now octets ended read is given = subst (IsGiven old octets ended now) is given
