-- Texts without a mark, and what is joined to them.
use Rattle.std.proofs.Common.{◌≡◌, ◌∙◌, ℕ, ◌==◌, Bool, true, false, cond, List, [], ◌∷◌, ◌++◌, refl, sym, ap, subst}
use Rattle.std.specs.List.{slice_split, onto_first, join_with_byte}
use Rattle.std.proofs.lemmas.List.Splits.{slice_split-cons_yes, slice_split-cons_no, join_with_byte-slice_split}
use Rattle.line_cuts.specs.Words.{lines_of}
use Rattle.line_source.specs.Lines.{IsUncut}

abbrev pub onto : ℕ → List (List ℕ) → List (List ℕ)
onto x parts = onto_first x parts

same-head : (f g : List ℕ) (fs gs : List (List ℕ)) → f ∷ fs ≡ g ∷ gs → f ≡ g
same-head f g fs gs e = cc

pub never-empty : (mark : ℕ) (text : List ℕ) → slice_split (λ byte. byte == mark) text ≡ [] → ⊥
never-empty mark [] h = cc
never-empty mark (byte ∷ text) h = by (byte == mark) (slice_split (λ other. other == mark) text) h
  where
    by : (t : Bool) (parts : List (List ℕ)) → cond t ([] ∷ parts) (onto_first byte parts) ≡ [] → ⊥
    by true parts e = cc
    by false [] e = cc
    by false (part ∷ parts) e = cc

same-tail : (f g : List ℕ) (fs gs : List (List ℕ)) → f ∷ fs ≡ g ∷ gs → fs ≡ gs
same-tail f g fs gs e = cc

-- the first part has no mark
pub first-uncut : (xs f : List ℕ) (parts : List (List ℕ)) → lines_of xs ≡ f ∷ parts → IsUncut f
first-uncut [] f parts e = subst (λ (g : List ℕ). lines_of g ≡ g ∷ []) (same-head [] f [] parts e) refl
first-uncut (x ∷ xs) f parts e = by (x == 10) refl (lines_of xs) refl (λ g gs is. first-uncut xs g gs is)
  where
    by : (b : Bool) → (x == 10) ≡ b → (rest : List (List ℕ)) → lines_of xs ≡ rest → ((g : List ℕ) (gs : List (List ℕ)) → lines_of xs ≡ g ∷ gs → IsUncut g) → IsUncut f
    by true hit rest is more =
        subst (λ (g : List ℕ). lines_of g ≡ g ∷ []) (same-head [] f (lines_of xs) parts (sym (slice_split-cons_yes (λ byte. byte == 10) x xs hit) ∙ e)) refl
    by false miss [] is more = absurd (never-empty 10 xs is)
    by false miss (g ∷ gs) is more =
        let here : (x ∷ g) ∷ gs ≡ f ∷ parts = sym (slice_split-cons_no (λ byte. byte == 10) x xs miss ∙ ap (onto x) is) ∙ e in
        subst (λ (h : List ℕ). lines_of h ≡ h ∷ []) (same-head (x ∷ g) f gs parts here)
        (slice_split-cons_no (λ byte. byte == 10) x g miss ∙ ap (onto x) (more g gs is))

cut-here : (x : ℕ) (xs : List ℕ) (parts : List (List ℕ)) → [] ∷ parts ≡ (x ∷ xs) ∷ [] → ⊥
cut-here x xs parts k = cc

rest-uncut : (x : ℕ) (xs g : List ℕ) (gs : List (List ℕ)) → (x ∷ g) ∷ gs ≡ (x ∷ xs) ∷ [] → g ∷ gs ≡ xs ∷ []
rest-uncut x xs g gs k = cc

-- behind a text without a mark
pub joined : (xs ys h : List ℕ) (hs : List (List ℕ)) → IsUncut xs → lines_of ys ≡ h ∷ hs → lines_of (xs ++ ys) ≡ (xs ++ h) ∷ hs
joined [] ys h hs u e = e
joined (x ∷ xs) ys h hs u e = by (x == 10) refl (lines_of xs) refl (λ v. joined xs ys h hs v e)
  where
    by : (b : Bool) → (x == 10) ≡ b → (rest : List (List ℕ)) → lines_of xs ≡ rest → (IsUncut xs → lines_of (xs ++ ys) ≡ (xs ++ h) ∷ hs) → lines_of (x ∷ (xs ++ ys)) ≡ (x ∷ (xs ++ h)) ∷ hs
    by true hit rest is more = absurd (cut-here x xs (lines_of xs) (sym (slice_split-cons_yes (λ byte. byte == 10) x xs hit) ∙ u))
    by false miss [] is more = absurd (never-empty 10 xs is)
    by false miss (g ∷ gs) is more =
        let here : (x ∷ g) ∷ gs ≡ (x ∷ xs) ∷ [] = sym (slice_split-cons_no (λ byte. byte == 10) x xs miss ∙ ap (onto x) is) ∙ u in
        slice_split-cons_no (λ byte. byte == 10) x (xs ++ ys) miss ∙ ap (onto x) (more (is ∙ rest-uncut x xs g gs here))

pub uncut-more : (xs ys : List ℕ) → IsUncut xs → IsUncut ys → IsUncut (xs ++ ys)
uncut-more xs ys u v = joined xs ys ys [] u v

-- a line, and what stands behind its LF
pub at-mark : (xs ys : List ℕ) → IsUncut xs → lines_of (xs ++ 10 ∷ ys) ≡ xs ∷ lines_of ys
at-mark xs ys u = joined xs (10 ∷ ys) [] (lines_of ys) u refl ∙ ap (λ (zs : List ℕ). zs ∷ lines_of ys) (append-nil xs)
  where
    append-nil : (zs : List ℕ) → zs ++ [] ≡ zs
    append-nil [] = refl
    append-nil (z ∷ zs) = ap (λ (ws : List ℕ). z ∷ ws) (append-nil zs)

-- what was cut is what was there
pub cut-back : (xs f b : List ℕ) → lines_of xs ≡ f ∷ lines_of b → xs ≡ f ++ 10 ∷ b
cut-back xs f b e =
    sym (join_with_byte-slice_split 10 xs) ∙ (ap (join_with_byte 10) e ∙ by (lines_of b) refl (join_with_byte-slice_split 10 b))
  where
    by : (parts : List (List ℕ)) → lines_of b ≡ parts → join_with_byte 10 (lines_of b) ≡ b → join_with_byte 10 (f ∷ lines_of b) ≡ f ++ 10 ∷ b
    by [] is back = absurd (never-empty 10 b is)
    by (p ∷ ps) is back =
        ap (λ (q : List (List ℕ)). join_with_byte 10 (f ∷ q)) is
        ∙ ap (λ (zs : List ℕ). f ++ 10 ∷ zs) (sym (ap (join_with_byte 10) is) ∙ back)
