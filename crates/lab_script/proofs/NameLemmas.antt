-- Names and their numbers.
use Rattle.std.proofs.Common.{◌≡◌, ℕ, zero, suc, ◌+◌, ◌<◌, Bool, true, false, cond, List, [], ◌∷◌, ◌++◌, length, get_or, Option, Some, None, IfSome, refl, sym, ap, ◌∙◌, subst, arith, inl, inr}
use Rattle.std.specs.List.{position_from}
use Rattle.std.specs.Str.{bytes_eq}
use Rattle.std.specs.Borrow.{Bor}
use Rattle.std.proofs.lemmas.Bool.{cases_Bool}
use Rattle.std.proofs.lemmas.Slice.Eq.{bytes_eq-Decides}
use Rattle.lab_script.specs.Names.{number_of_name}
use Rattle.line_cuts.specs.Words.{texts}
use Rattle.lab_script.proofs.LineLemmas.{no_word}

passed : (t : List ℕ → Bool) (i : ℕ) (xs : List (List ℕ)) (x : List ℕ) → t x ≡ false → position_from t i (xs ++ x ∷ []) ≡ position_from t i xs
passed t i [] x e = ap (λ (b : Bool). cond b (Some i) None) e
passed t i (y ∷ xs) x e = ap (λ (o : Option ℕ). cond (t y) (Some i) o) (passed t (i + 1) xs x e)

cond-is_none : (b : Bool) (i : ℕ) (o : Option ℕ) → cond b (Some i) o ≡ None → (b ≡ false) × (o ≡ None)
cond-is_none true i o e = cc
cond-is_none false i o e = (refl, e)

some-same : (i j : ℕ) → i ≡ j → ◌≡◌ {A = Option ℕ} (Some i) (Some j)
some-same i j e = cc

taken : (t : List ℕ → Bool) (i : ℕ) (xs : List (List ℕ)) (x : List ℕ) → position_from t i xs ≡ None → t x ≡ true → position_from t i (xs ++ x ∷ []) ≡ Some (i + length xs)
taken t i [] x none e = ap (λ (b : Bool). cond b (Some i) None) e ∙ some-same i (i + 0) (omega arith)
taken t i (y ∷ xs) x none e =
    let before = cond-is_none (t y) i (position_from t (i + 1) xs) none in
    ap (λ (b : Bool). cond b (Some i) (position_from t (i + 1) (xs ++ x ∷ []))) before.0 ∙ taken t (i + 1) xs x before.1 e ∙ some-same _ _ (omega arith)

-- one name more, which was none before
pub number_of_name-push : (names : List (List ℕ)) (new name : List ℕ) → number_of_name names new ≡ None → number_of_name (names ++ new ∷ []) name ≡ cond (bytes_eq new name) (Some (length names)) (number_of_name names name)
number_of_name-push names new name none =
    elim (cases_Bool (bytes_eq new name)) [
      | inl same ↦
          (let equal = (bytes_eq-Decides new name).0 same in
          let absent = subst (λ (n : List ℕ). number_of_name names n ≡ None) equal none in
          taken (λ other. bytes_eq other name) 0 names new absent same ∙ some-same _ _ (omega arith) ∙ sym (ap (λ (b : Bool). cond b (Some (length names)) (number_of_name names name)) same))
      | inr apart ↦ passed (λ other. bytes_eq other name) 0 names new apart ∙ sym (ap (λ (b : Bool). cond b (Some (length names)) (number_of_name names name)) apart)
    ]

pub texts-push : (words : List (Bor (List ℕ))) (word : Bor (List ℕ)) → texts (words ++ word ∷ []) ≡ texts words ++ word.now ∷ []
texts-push [] word = refl
texts-push (w ∷ words) word = ap (λ (xs : List (List ℕ)). w.now ∷ xs) (texts-push words word)

pub length-texts : (words : List (Bor (List ℕ))) → length (texts words) ≡ length words
length-texts [] = refl
length-texts (w ∷ words) = omega (arith, length-texts words)

within-from : (t : List ℕ → Bool) (i : ℕ) (xs : List (List ℕ)) → IfSome (position_from t i xs) (λ place. place < i + length xs)
within-from t i [] = tt
within-from t i (x ∷ xs) = chosen (t x) (position_from t (i + 1) xs) (within-from t (i + 1) xs)
  where
    chosen : (b : Bool) (o : Option ℕ) → IfSome o (λ place. place < i + 1 + length xs) → IfSome (cond b (Some i) o) (λ place. place < i + length (x ∷ xs))
    chosen true o h = omega arith
    chosen false None h = tt
    chosen false (Some place) h = omega arith

-- a name that is found is a router's
pub number_of_name-within : (names : List (List ℕ)) (name : List ℕ) → IfSome (number_of_name names name) (λ router. router < length names)
number_of_name-within names name = counted (number_of_name names name) (within-from (λ other. bytes_eq other name) 0 names)
  where
    counted : (o : Option ℕ) → IfSome o (λ place. place < 0 + length names) → IfSome o (λ router. router < length names)
    counted None h = tt
    counted (Some place) h = omega arith

-- a name is the text of its word
pub texts-at : (words : List (Bor (List ℕ))) (i : ℕ) (x : List ℕ) → i < length words → (get_or words i no_word).now ≡ get_or (texts words) i x
texts-at [] i x lt = absurd (omega arith)
texts-at (w ∷ words) zero x lt = refl
texts-at (w ∷ words) (suc i) x lt = texts-at words i x (omega arith)
