-- More octets behind a text change its last line alone.
use Rattle.std.proofs.Common.{◌≡◌, ◌∙◌, ℕ, ◌==◌, Bool, true, false, List, [], ◌∷◌, ◌++◌, refl, sym, ap}
use Rattle.std.proofs.lemmas.List.Splits.{slice_split-cons_yes, slice_split-cons_no}
use Rattle.line_cuts.specs.Words.{lines_of}
use Rattle.line_source.proofs.CutLemmas.{onto, never-empty}

-- lines whose last goes on so
abbrev longer : List (List ℕ) → List ℕ → List (List ℕ)
longer [] more = lines_of more
longer (line ∷ []) more = lines_of (line ++ more)
longer (line ∷ next ∷ lines) more = line ∷ longer (next ∷ lines) more

longer-head : (x : ℕ) (line : List ℕ) (lines : List (List ℕ)) (more : List ℕ) → (x == 10) ≡ false
    → longer ((x ∷ line) ∷ lines) more ≡ onto x (longer (line ∷ lines) more)
longer-head x line [] more miss = slice_split-cons_no (λ byte. byte == 10) x (line ++ more) miss
longer-head x line (next ∷ lines) more miss = refl

longer-next : (line : List ℕ) (lines : List (List ℕ)) (more : List ℕ) → (lines ≡ [] → ⊥) → longer (line ∷ lines) more ≡ line ∷ longer lines more
longer-next line [] more some = absurd (some refl)
longer-next line (next ∷ lines) more some = refl

text-longer : (text more : List ℕ) → lines_of (text ++ more) ≡ longer (lines_of text) more
text-longer [] more = refl
text-longer (x ∷ text) more = by (x == 10) refl (lines_of text) refl (text-longer text more)
  where
    by : (b : Bool) → (x == 10) ≡ b → (lines : List (List ℕ)) → lines_of text ≡ lines → lines_of (text ++ more) ≡ longer (lines_of text) more
        → lines_of (x ∷ (text ++ more)) ≡ longer (lines_of (x ∷ text)) more
    by true hit lines is h =
        slice_split-cons_yes (λ byte. byte == 10) x (text ++ more) hit
        ∙ (ap (λ (ls : List (List ℕ)). [] ∷ ls) h
        ∙ (sym (longer-next [] (lines_of text) more (never-empty 10 text))
        ∙ sym (ap (λ (ls : List (List ℕ)). longer ls more) (slice_split-cons_yes (λ byte. byte == 10) x text hit))))
    by false miss [] is h = absurd (never-empty 10 text is)
    by false miss (line ∷ lines) is h =
        slice_split-cons_no (λ byte. byte == 10) x (text ++ more) miss
        ∙ (ap (onto x) (h ∙ ap (λ (ls : List (List ℕ)). longer ls more) is)
        ∙ (sym (longer-head x line lines more miss)
        ∙ sym (ap (λ (ls : List (List ℕ)). longer ls more)
        (slice_split-cons_no (λ byte. byte == 10) x text miss ∙ ap (onto x) is))))

longer-behind : (lines behind : List (List ℕ)) (more : List ℕ) → (behind ≡ [] → ⊥) → longer (lines ++ behind) more ≡ lines ++ longer behind more
longer-behind [] behind more some = refl
longer-behind (line ∷ lines) behind more some =
    longer-next line (lines ++ behind) more (some-behind lines) ∙ ap (λ (ls : List (List ℕ)). line ∷ ls) (longer-behind lines behind more some)
  where
    some-behind : (ls : List (List ℕ)) → ls ++ behind ≡ [] → ⊥
    some-behind [] e = some e
    some-behind (l ∷ ls) e = cc

pub more-behind : (text pending more : List ℕ) (lines : List (List ℕ)) → lines_of text ≡ lines ++ lines_of pending
    → lines_of (text ++ more) ≡ lines ++ lines_of (pending ++ more)
more-behind text pending more lines e =
    text-longer text more ∙ (ap (λ (ls : List (List ℕ)). longer ls more) e
    ∙ (longer-behind lines (lines_of pending) more (never-empty 10 pending)
    ∙ ap (λ (ls : List (List ℕ)). lines ++ ls) (sym (text-longer pending more))))
