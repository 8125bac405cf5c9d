-- The part ahead.
use Rattle.std.proofs.Common.{◌≡◌, ◌∙◌, ℕ, zero, suc, ◌+◌, ◌-◌, ◌<◌, ◌≤◌, Bool, true, false, cond, List, [], ◌∷◌, ◌++◌, take, drop, refl, sym, ap, arith}
use Rattle.std.proofs.lemmas.List.{append_assoc}
use Rattle.std.proofs.lemmas.List.Concat.{flat_map-cons}
use Rattle.weave_text.specs.Ahead.{is_ahead, ahead_count, behind_many, told_of, told_in}
use Rattle.weave_text.specs.Lines.{Left, text_of}

tail-is : (a b : List ℕ) (xs ys : List (List ℕ)) → a ∷ xs ≡ b ∷ ys → xs ≡ ys
tail-is a b xs ys e = cc

pub count-none : (lines : List (List ℕ)) → lines ≡ [] → ahead_count lines ≡ 0
unfolding ahead_count
count-none lines e = ap ahead_count e

pub count-next : (all : List (List ℕ)) (line : List ℕ) (lines : List (List ℕ)) → all ≡ line ∷ lines → is_ahead line ≡ true → ahead_count all ≡ 1 + ahead_count lines
unfolding ahead_count
count-next all line lines e h = ap ahead_count e ∙ ap (λ (b : Bool). cond b (1 + ahead_count lines) 0) h

pub count-stop : (all : List (List ℕ)) (line : List ℕ) (lines : List (List ℕ)) → all ≡ line ∷ lines → is_ahead line ≡ false → ahead_count all ≡ 0
unfolding ahead_count
count-stop all line lines e h = ap ahead_count e ∙ ap (λ (b : Bool). cond b (1 + ahead_count lines) 0) h

-- ---- so many lines

-- the first of so many lines that are left
pub take-turn : (count place : ℕ) (all : List (List ℕ)) (line : List ℕ) (lines : List (List ℕ)) → place < count → all ≡ line ∷ lines → take (count - place) all ≡ line ∷ take (count - (place + 1)) lines
take-turn count place all line lines lt e =
    ap (λ (n : ℕ). take n all) step ∙ ap (take (suc (count - (place + 1)))) e
  where
    step : count - place ≡ suc (count - (place + 1))
    step = omega (arith, lt)

take-none : (n : ℕ) → take {A = List ℕ} n [] ≡ []
take-none zero = refl
take-none (suc n) = refl

pub take-nothing : (n : ℕ) (all : List (List ℕ)) → all ≡ [] → take n all ≡ []
take-nothing n all e = ap (take n) e ∙ take-none n

pub text-of_two : (first second : List (List ℕ)) → text_of (first ++ second) ≡ text_of first ++ text_of second
text-of_two [] second = refl
text-of_two (line ∷ first) second =
    ap (λ (t : List ℕ). line ++ 10 ∷ t) (text-of_two first second)
    ∙ sym (append_assoc line (10 ∷ text_of first) (text_of second))

-- a line more of a text
pub text-turn : (text whole : List ℕ) (line : List ℕ) (lines : List (List ℕ)) → text ++ text_of (line ∷ lines) ≡ whole → (text ++ text_of (line ∷ [])) ++ text_of lines ≡ whole
text-turn text whole line lines h =
    append_assoc text (text_of (line ∷ [])) (text_of lines)
    ∙ ap (λ (t : List ℕ). text ++ t) (sym (text-of_two (line ∷ []) lines))
    ∙ h

pub told-turn : (text whole : List ℕ) (line : List ℕ) (lines : List (List ℕ)) → text ++ text_of (told_in (line ∷ lines)) ≡ whole → (text ++ text_of (told_of line)) ++ text_of (told_in lines) ≡ whole
told-turn text whole line lines h =
    let two : text_of (told_in (line ∷ lines)) ≡ text_of (told_of line) ++ text_of (told_in lines) = ap text_of (flat_map-cons told_of line lines) ∙ text-of_two (told_of line) (told_in lines) in
    append_assoc text (text_of (told_of line)) (text_of (told_in lines))
    ∙ ap (λ (t : List ℕ). text ++ t) (sym two)
    ∙ h

-- ---- lines that were passed

-- one line more is left out
pub drop-turn : (count : ℕ) (all : List (List ℕ)) (line : List ℕ) (lines : List (List ℕ)) → line ∷ lines ≡ drop count all → lines ≡ drop (suc count) all
drop-turn zero [] line lines e = absurd (cc e)
drop-turn zero (x ∷ all) line lines e = tail-is line x lines all e
drop-turn (suc count) [] line lines e = absurd (cc e)
drop-turn (suc count) (x ∷ all) line lines e = drop-turn count all line lines e

-- what is left behind the lines that were passed
pub behind-is : (behind left all : Left) (first count : ℕ) → behind ≡ left → first ≡ all.number → first ≤ left.number → left.lines ≡ drop (left.number - first) all.lines → left.number - first ≡ count → behind ≡ behind_many count all
behind-is behind left all first count same begins past dropped counted =
    same
    ∙ ap (λ (n : ℕ). record { number = n; lines = left.lines }) number
    ∙ ap (λ (ls : List (List ℕ)). record { number = all.number + count; lines = ls }) (dropped ∙ ap (λ (n : ℕ). drop n all.lines) counted)
  where
    number : left.number ≡ all.number + count
    number = omega (arith, begins, past, counted)
