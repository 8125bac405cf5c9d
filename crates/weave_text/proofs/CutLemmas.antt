-- Lines of texts.
use Rattle.std.proofs.Common.{◌≡◌, ◌∙◌, ℕ, ◌==◌, Bool, true, false, cond, List, [], ◌∷◌, ◌++◌, Option, Some, None, refl, ap}
use Rattle.std.specs.Borrow.{Bor}
use Rattle.std.specs.List.{AllByRecursion, slice_split, onto_first}
use Rattle.std.proofs.lemmas.List.Splits.{slice_split-cons_yes, slice_split-cons_no}
use Rattle.line_cuts.specs.Cuts.{parts_behind}
use Rattle.line_cuts.specs.Words.{lines_of}
use Rattle.line_cuts.proofs.CutLemmas.{never-empty}
use Rattle.journal_text.specs.Journals.{is_end}
use Rattle.weave_text.specs.Lines.{whole_lines, IsUnbroken, text_of}

-- ---- all lines but the empty one behind the last LF

pub whole-none : (lines : List (List ℕ)) → lines ≡ [] → whole_lines lines ≡ []
unfolding whole_lines
whole-none lines e = ap whole_lines e

pub whole-end : (all : List (List ℕ)) (line : List ℕ) (lines : List (List ℕ)) → all ≡ line ∷ lines → is_end line lines ≡ true → whole_lines all ≡ []
unfolding whole_lines
whole-end all line lines e end = ap whole_lines e ∙ ap (λ (b : Bool). cond b [] (line ∷ whole_lines lines)) end

pub whole-next : (all : List (List ℕ)) (line : List ℕ) (lines : List (List ℕ)) → all ≡ line ∷ lines → is_end line lines ≡ false → whole_lines all ≡ line ∷ whole_lines lines
unfolding whole_lines
whole-next all line lines e end = ap whole_lines e ∙ ap (λ (b : Bool). cond b [] (line ∷ whole_lines lines)) end

-- ---- no line has LF

onto : (byte : ℕ) → (byte == 10) ≡ false → (parts : List (List ℕ)) → AllByRecursion IsUnbroken parts → AllByRecursion IsUnbroken (onto_first byte parts)
onto byte e [] all = ((e, tt), tt)
onto byte e (part ∷ parts) all = ((e, all.0), all.1)

pub all-unbroken : (text : List ℕ) → AllByRecursion IsUnbroken (lines_of text)
all-unbroken [] = (tt, tt)
all-unbroken (byte ∷ text) = by (byte == 10) refl (all-unbroken text)
  where
    by : (t : Bool) → (byte == 10) ≡ t → AllByRecursion IsUnbroken (lines_of text) → AllByRecursion IsUnbroken (cond t ([] ∷ slice_split (λ (b : ℕ). b == 10) text) (onto_first byte (slice_split (λ (b : ℕ). b == 10) text)))
    by true e all = (tt, all)
    by false e all = onto byte e (slice_split (λ (b : ℕ). b == 10) text) all

pub parts-unbroken : (left : Option (Bor (List ℕ))) → AllByRecursion IsUnbroken (parts_behind 10 left)
parts-unbroken None = tt
parts-unbroken (Some rest) = all-unbroken rest.now

pub whole-unbroken : (lines : List (List ℕ)) → AllByRecursion IsUnbroken lines → AllByRecursion IsUnbroken (whole_lines lines)
unfolding whole_lines
whole-unbroken [] all = tt
whole-unbroken (line ∷ lines) all = by (is_end line lines) (whole_lines lines) (whole-unbroken lines all.1)
  where
    by : (t : Bool) (whole : List (List ℕ)) → AllByRecursion IsUnbroken whole → AllByRecursion IsUnbroken (cond t [] (line ∷ whole))
    by true whole h = tt
    by false whole h = (all.0, h)

-- ---- cut at LF

pub cut-at : (line rest : List ℕ) → IsUnbroken line → lines_of (line ++ 10 ∷ rest) ≡ line ∷ lines_of rest
cut-at [] rest h = slice_split-cons_yes (λ (b : ℕ). b == 10) 10 rest refl
cut-at (x ∷ line) rest h = slice_split-cons_no (λ (b : ℕ). b == 10) x (line ++ 10 ∷ rest) h.0 ∙ ap (onto_first x) (cut-at line rest h.1)

pub cut-all : (line : List ℕ) → IsUnbroken line → lines_of line ≡ line ∷ []
cut-all [] h = refl
cut-all (x ∷ line) h = slice_split-cons_no (λ (b : ℕ). b == 10) x line h.0 ∙ ap (onto_first x) (cut-all line h.1)

-- the lines of a text of lines, and the empty one behind the last LF
pub lines-of_text : (lines : List (List ℕ)) → AllByRecursion IsUnbroken lines → lines_of (text_of lines) ≡ lines ++ [] ∷ []
lines-of_text [] h = refl
lines-of_text (line ∷ lines) h = cut-at line (text_of lines) h.0 ∙ ap (λ (xs : List (List ℕ)). line ∷ xs) (lines-of_text lines h.1)

-- ---- the empty line behind the last LF

pub not-empty : (text : List ℕ) → lines_of text ≡ [] → ⊥
not-empty text e = never-empty 10 text e

pub not-end : (line : List ℕ) (lines : List (List ℕ)) → (lines ≡ [] → ⊥) → is_end line lines ≡ false
not-end [] [] some = absurd (some refl)
not-end [] (next ∷ lines) some = refl
not-end (byte ∷ line) lines some = refl
