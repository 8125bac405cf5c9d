-- Texts cut at marks.
use Rattle.std.proofs.Common.{◌≡◌, ◌∙◌, ℕ, zero, suc, ◌+◌, ◌-◌, ◌<◌, ◌≤◌, ◌==◌, Bool, true, false, cond, List, [], ◌∷◌, length, get_or, take, drop, Option, Some, None, IfSome, refl, sym, ap, arith}
use Rattle.std.specs.Borrow.{Bor}
use Rattle.std.specs.List.{slice_split, onto_first}
use Rattle.std.proofs.Math.Seq.{take-length}
use Rattle.std.proofs.lemmas.List.{length-drop}
use Rattle.std.proofs.lemmas.List.Splits.{slice_split-cons_yes, slice_split-cons_no}

-- a test that doesn't hold is false
fails : (b : Bool) → ¬ (b ≡ true) → b ≡ false
fails true h = absurd (h refl)
fails false h = refl

-- the part before the first mark, and the parts behind it
pub split-at : (mark : ℕ) (text : List ℕ) (place : ℕ) → place < length text → ((k : ℕ) → k < place → ¬ ((get_or text k 0 == mark) ≡ true)) → (get_or text place 0 == mark) ≡ true → slice_split (λ byte. byte == mark) text ≡ take place text ∷ slice_split (λ byte. byte == mark) (drop (place + 1) text)
split-at mark [] place lt none hit = absurd (omega arith)
split-at mark (x ∷ text) zero lt none hit = slice_split-cons_yes (λ byte. byte == mark) x text hit
split-at mark (x ∷ text) (suc place) lt none hit =
    let step : suc (place + 1) ≡ suc place + 1 = omega arith in
    slice_split-cons_no (λ byte. byte == mark) x text (fails (x == mark) (none 0 (omega arith)))
    ∙ ap (onto_first x) (split-at mark text place (omega arith) (λ k below. none (suc k) (omega arith)) hit)
    ∙ ap (λ (n : ℕ). (x ∷ take place text) ∷ slice_split (λ byte. byte == mark) (drop n (x ∷ text))) step

-- what a slice to the end has
pub to_end : (text : List ℕ) (place : ℕ) → take (length text - place) (drop place text) ≡ drop place text
to_end text place = ap (λ (n : ℕ). take n (drop place text)) (sym (length-drop place text)) ∙ take-length (drop place text)

-- no mark, no cut
pub split-none : (mark : ℕ) (text : List ℕ) → ((k : ℕ) → k < length text → ¬ ((get_or text k 0 == mark) ≡ true)) → slice_split (λ byte. byte == mark) text ≡ text ∷ []
split-none mark [] none = refl
split-none mark (x ∷ text) none =
    slice_split-cons_no (λ byte. byte == mark) x text (fails (x == mark) (none 0 (omega arith)))
    ∙ ap (onto_first x) (split-none mark text (λ k below. none (suc k) (omega arith)))

-- how much is left to read, with one for the end
abbrev pub size_left : Option (Bor (List ℕ)) → ℕ
size_left None = 0
size_left (Some behind) = suc (length behind.now)

-- less is left behind a mark
pub size_left-of_behind : (behind : Option (Bor (List ℕ))) (n : ℕ) → IfSome behind (λ rest. length rest.now < n) → size_left behind ≤ n
size_left-of_behind None n h = omega arith
size_left-of_behind (Some rest) n h = omega (arith, h)

-- a text has a part, if only an empty one
pub never-empty : (mark : ℕ) (text : List ℕ) → slice_split (λ byte. byte == mark) text ≡ [] → ⊥
never-empty mark [] h = cc
never-empty mark (byte ∷ text) h = by (byte == mark) (slice_split (λ other. other == mark) text) h
  where
    by : (t : Bool) (parts : List (List ℕ)) → cond t ([] ∷ parts) (onto_first byte parts) ≡ [] → ⊥
    by true parts e = cc
    by false [] e = cc
    by false (part ∷ parts) e = cc
