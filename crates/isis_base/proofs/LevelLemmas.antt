-- The texts of sets of levels.
use Rattle.std.proofs.Common.{◌≡◌, ℕ, zero, suc, ◌+◌, ◌≤◌, Bool, true, false, cond, List, [], ◌∷◌, ◌++◌, length, take, drop, max, nat_eq, codes, Option, Some, None, refl, sym, ap, ◌∙◌, subst, arith, inl, inr, one-add}
use Rattle.std.specs.List.{common_prefix_len}
use Rattle.std.proofs.lemmas.Bool.{eqb-true, eq-eqb, cases_lt}
use Rattle.std.proofs.lemmas.List.{take-append-drop}
use Rattle.std.proofs.lemmas.List.Sums.{common_prefix_len-le}
use Rattle.isis_base.specs.declared.level.LevelSet.{LevelSet}
use Rattle.isis_base.specs.declared.level.LevelSet.TheVariants.{One, Two, Both}
use Rattle.std.specs.Str.{bytes_eq}
use Rattle.std.proofs.lemmas.Slice.Eq.{bytes_eq-Decides}
use Rattle.isis_base.specs.Levels.{levels_text, levels_of, IsLevelsText}
use Rattle.isis_base.specs.Texts.{IsFaultAt}

abbrev common : List ℕ → List ℕ → ℕ
common = common_prefix_len nat_eq

take-none : (xs ys : List ℕ) → take 0 xs ≡ take 0 ys
take-none [] [] = refl
take-none [] (y ∷ ys) = refl
take-none (x ∷ xs) [] = refl
take-none (x ∷ xs) (y ∷ ys) = refl

take-common_step : (x y n : ℕ) (xs ys : List ℕ) → take n xs ≡ take n ys → (t : Bool) → nat_eq x y ≡ t → take (cond t (1 + n) 0) (x ∷ xs) ≡ take (cond t (1 + n) 0) (y ∷ ys)
take-common_step x y n xs ys rest true e =
    let same : x ≡ y = eqb-true x y e in
    rw one-add (cc)
take-common_step x y n xs ys rest false e = refl

-- up to where they agree, two texts are one
take-common : (xs ys : List ℕ) → take (common xs ys) xs ≡ take (common xs ys) ys
take-common [] ys = take-none [] ys
take-common (x ∷ xs) [] = refl
take-common (x ∷ xs) (y ∷ ys) = take-common_step x y (common xs ys) xs ys (take-common xs ys) (nat_eq x y) refl

-- a text that begins as another does agrees with it so far
begun : (word text more : List ℕ) (n : ℕ) → n ≤ length text → take n text ++ more ≡ word → n ≤ common word text
begun word text more zero h e = omega arith
begun word [] more (suc n) h e = absurd (omega arith)
begun [] (x ∷ text) more (suc n) h e = cc
begun (y ∷ word) (x ∷ text) more (suc n) h e =
    let rest = begun word text more n (omega arith) cc in
    let same : y ≡ x = cc in
    let test : nat_eq y x ≡ true = eq-eqb y x same in
    rw test (omega arith)

common-longer_step : (t : Bool) (m n : ℕ) → m ≤ n → cond t (1 + m) 0 ≤ cond t (1 + n) 0
common-longer_step true m n h = omega arith
common-longer_step false m n h = omega arith

common-longer : (word more text : List ℕ) → common word text ≤ common (word ++ more) text
common-longer [] more text = omega arith
common-longer (y ∷ word) more [] = omega arith
common-longer (y ∷ word) more (x ∷ text) = common-longer_step (nat_eq y x) (common word text) (common (word ++ more) text) (common-longer word more text)

-- the text goes on as the word does
goes_on : (word text : List ℕ) → take (common word text) text ++ drop (common word text) word ≡ word
goes_on word text = ap (λ (front : List ℕ). front ++ drop (common word text) word) (sym (take-common word text)) ∙ take-append-drop (common word text) word

abbrev GoesOn : List ℕ → ℕ → Type 0
GoesOn text place = (more : List ℕ) × IsLevelsText (take place text ++ more)

-- where a text agrees longest with that of some levels is its fault
pub IsFaultAt-levels : (text : List ℕ) (place : ℕ) → place ≡ max (common (codes "L1L2") text) (common (codes "L2") text) → ((set : LevelSet) → text ≡ levels_text set → ⊥) → IsFaultAt IsLevelsText text place
IsFaultAt-levels text place e none =
    let both = common (codes "L1L2") text in
    let two = common (codes "L2") text in
    record {
      none = λ (set, same). none set same;
      within = let a = (common_prefix_len-le nat_eq (codes "L1L2") text).1 in let b = (common_prefix_len-le nat_eq (codes "L2") text).1 in omega arith;
      begins = elim (cases_lt both two) [
        | inl below ↦ subst (GoesOn text) (let same : two ≡ place = omega arith in same) (drop two (codes "L2"), (Two, goes_on (codes "L2") text))
        | inr above ↦ subst (GoesOn text) (let same : both ≡ place = omega arith in same) (drop both (codes "L1L2"), (Both, goes_on (codes "L1L2") text))
      ];
      longest = λ n more within (set, same). let reached = begun (levels_text set) text more n within same in bound set n reached;
    }
  where
    bound : (set : LevelSet) (n : ℕ) → n ≤ common (levels_text set) text → n ≤ place
    bound One n h = let longer = common-longer (codes "L1") (codes "L2") text in omega arith
    bound Two n h = omega arith
    bound Both n h = omega arith

same-text : (text word : List ℕ) → bytes_eq text word ≡ true → text ≡ word
same-text text word e = grind (arith, bytes_eq-Decides text word)

-- the set that a text is read as has this text
pub levels_of-text : (text : List ℕ) (set : LevelSet) → levels_of text ≡ Some set → text ≡ levels_text set
levels_of-text text set e = by_one (bytes_eq text (codes "L1")) refl e
  where
    by_both : (t : Bool) → bytes_eq text (codes "L1L2") ≡ t → cond t (Some Both) None ≡ Some set → text ≡ levels_text set
    by_both true t e = let is : Both ≡ set = cc in same-text text (codes "L1L2") t ∙ ap levels_text is
    by_both false t e = cc

    by_two : (t : Bool) → bytes_eq text (codes "L2") ≡ t → cond t (Some Two) (cond (bytes_eq text (codes "L1L2")) (Some Both) None) ≡ Some set → text ≡ levels_text set
    by_two true t e = let is : Two ≡ set = cc in same-text text (codes "L2") t ∙ ap levels_text is
    by_two false t e = by_both (bytes_eq text (codes "L1L2")) refl e

    by_one : (t : Bool) → bytes_eq text (codes "L1") ≡ t → cond t (Some One) (cond (bytes_eq text (codes "L2")) (Some Two) (cond (bytes_eq text (codes "L1L2")) (Some Both) None)) ≡ Some set → text ≡ levels_text set
    by_one true t e = let is : One ≡ set = cc in same-text text (codes "L1") t ∙ ap levels_text is
    by_one false t e = by_two (bytes_eq text (codes "L2")) refl e

-- a set's text is read as it
pub levels_of-written : (set : LevelSet) → levels_of (levels_text set) ≡ Some set
levels_of-written One = refl
levels_of-written Two = refl
levels_of-written Both = refl
