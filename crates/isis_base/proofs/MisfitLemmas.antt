-- Where a text stops fitting a form.
use Rattle.std.proofs.Common.{◌≡◌, ℕ, zero, suc, ◌+◌, ◌*◌, ◌≤◌, Bool, true, false, cond, eqb, ltb, List, [], ◌∷◌, ◌++◌, length, take, Option, Some, None, Result, Ok, Err, refl, sym, ap, ◌∙◌, subst, arith, one-add}
use Rattle.std.proofs.lemmas.Bool.{eq-eqb}
use Rattle.std.specs.Char.{digit_value}
use Rattle.isis_base.specs.declared.parts.Part.{Part}
use Rattle.isis_base.specs.declared.parts.Part.TheVariants.{Octet, Mark}
use Rattle.isis_base.specs.Misfit.{later, pair_of, after_pair, misfit_of}

pub later-is_some : (n p : ℕ) (o : Option ℕ) → later n o ≡ Some p → (q : ℕ) × (o ≡ Some q) × (p ≡ n + q)
later-is_some n p None e = cc
later-is_some n p (Some q) e = (q, refl, cc)

pub later-none : (n : ℕ) (o : Option ℕ) → later n o ≡ None → o ≡ None
later-none n None e = refl
later-none n (Some q) e = cc

-- what a longer front of the text fits, goes no further than the place that doesn't fit
mark-longest : (one two : Option ℕ) (k p : ℕ) → ((q : ℕ) → one ≡ Some q → two ≡ None → k ≤ q) → (test : Bool) → cond test (later 1 one) (Some 0) ≡ Some p → cond test (later 1 two) (Some 0) ≡ None → k + 1 ≤ p
mark-longest one two k p rec true e f =
    let found = later-is_some 1 p one e in
    let here = rec found.0 found.1 (later-none 1 two f) in
    omega arith
mark-longest one two k p rec false e f = cc

pair-longest : (one two : Option ℕ) (k p : ℕ) → ((q : ℕ) → one ≡ Some q → two ≡ None → k ≤ q) → (pair : Result ℕ ℕ) → after_pair pair one ≡ Some p → after_pair pair two ≡ None → k + 2 ≤ p
pair-longest one two k p rec (Ok o) e f =
    let found = later-is_some 2 p one e in
    let here = rec found.0 found.1 (later-none 2 two f) in
    omega arith
pair-longest one two k p rec (Err d) e f = cc

-- the first digit of a pair that fits is one, so the misfit of another pair that begins with it is later
digit-longest : (p : ℕ) (one two : Option ℕ) (t s u : Bool) (a b : ℕ) → after_pair (cond t (cond s (Ok a) (Err 1)) (Err 0)) one ≡ Some p → after_pair (cond t (cond u (Ok b) (Err 1)) (Err 0)) two ≡ None → 1 ≤ p
digit-longest p one two true true u a b e f = let found = later-is_some 2 p one e in omega arith
digit-longest p one two true false u a b e f = let same : 1 ≡ p = cc in omega arith
digit-longest p one two false s u a b e f = cc

digit-only : (p : ℕ) (two : Option ℕ) (t u : Bool) (b : ℕ) → cond t (Some 1) (Some 0) ≡ Some p → after_pair (cond t (cond u (Ok b) (Err 1)) (Err 0)) two ≡ None → 1 ≤ p
digit-only p two true u b e f = let same : 1 ≡ p = cc in omega arith
digit-only p two false u b e f = cc

pub never-none : (t : Bool) → cond {A = Option ℕ} t (Some 1) (Some 0) ≡ None → ⊥
never-none true e = cc
never-none false e = cc

pub misfit_of-longest : (parts : List Part) (text more : List ℕ) (n p : ℕ) → misfit_of parts text ≡ Some p → misfit_of parts (take n text ++ more) ≡ None → n ≤ length text → n ≤ p
unfolding misfit_of
misfit_of-longest [] [] more n p e f h = cc
misfit_of-longest [] (b ∷ text) more zero p e f h = omega arith
misfit_of-longest [] (b ∷ text) more (suc n) p e f h = cc
misfit_of-longest (Mark m ∷ parts) [] more n p e f h = omega arith
misfit_of-longest (Mark m ∷ parts) (b ∷ text) more zero p e f h = omega arith
misfit_of-longest (Mark m ∷ parts) (b ∷ text) more (suc n) p e f h =
    let step = mark-longest (misfit_of parts text) (misfit_of parts (take n text ++ more)) n p (λ q one two. misfit_of-longest parts text more n q one two (omega arith)) (eqb b m) e f in
    omega arith
misfit_of-longest (Octet ∷ parts) [] more n p e f h = omega arith
misfit_of-longest (Octet ∷ parts) (high ∷ []) more zero p e f h = omega arith
misfit_of-longest (Octet ∷ parts) (high ∷ []) [] (suc zero) p e f h = absurd (never-none (ltb (digit_value high) 16) f)
misfit_of-longest (Octet ∷ parts) (high ∷ []) (low ∷ more) (suc zero) p e f h =
    digit-only p (misfit_of parts more) (ltb (digit_value high) 16) (ltb (digit_value low) 16) _ e f
misfit_of-longest (Octet ∷ parts) (high ∷ []) more (suc (suc n)) p e f h = absurd (omega arith)
misfit_of-longest (Octet ∷ parts) (high ∷ low ∷ text) more zero p e f h = omega arith
misfit_of-longest (Octet ∷ parts) (high ∷ low ∷ text) [] (suc zero) p e f h = absurd (never-none (ltb (digit_value high) 16) f)
misfit_of-longest (Octet ∷ parts) (high ∷ low ∷ text) (other ∷ more) (suc zero) p e f h =
    digit-longest p (misfit_of parts text) (misfit_of parts more) (ltb (digit_value high) 16) (ltb (digit_value low) 16) (ltb (digit_value other) 16) _ _ e f
misfit_of-longest (Octet ∷ parts) (high ∷ low ∷ text) more (suc (suc n)) p e f h =
    let step = pair-longest (misfit_of parts text) (misfit_of parts (take n text ++ more)) n p (λ q one two. misfit_of-longest parts text more n q one two (omega arith)) (pair_of high low) e f in
    omega arith

-- a text of the form: each octet is 0
abbrev pub blank : List Part → List ℕ
blank [] = []
blank (Mark m ∷ parts) = m ∷ blank parts
blank (Octet ∷ parts) = 48 ∷ 48 ∷ blank parts

pub misfit_of-blank : (parts : List Part) → misfit_of parts (blank parts) ≡ None
unfolding misfit_of
misfit_of-blank [] = refl
misfit_of-blank (Mark m ∷ parts) =
    ap (λ (t : Bool). cond t (later 1 (misfit_of parts (blank parts))) (Some 0)) (eq-eqb m m refl) ∙ ap (later 1) (misfit_of-blank parts)
misfit_of-blank (Octet ∷ parts) = ap (later 2) (misfit_of-blank parts)

-- up to the place that doesn't fit, the text goes on to one that does
abbrev GoesOn : List Part → List ℕ → ℕ → Type 0
GoesOn parts text p = (more : List ℕ) × (misfit_of parts (take p text ++ more) ≡ None)

mark-goes_on : (parts : List Part) (m b p : ℕ) (text : List ℕ) → ((q : ℕ) → misfit_of parts text ≡ Some q → GoesOn parts text q) → (test : Bool) → eqb b m ≡ test → cond test (later 1 (misfit_of parts text)) (Some 0) ≡ Some p → GoesOn (Mark m ∷ parts) (b ∷ text) p
unfolding misfit_of
mark-goes_on parts m b p text rec true t e =
    let found = later-is_some 1 p (misfit_of parts text) e in
    let rest = rec found.0 found.1 in
    let fits : misfit_of (Mark m ∷ parts) (b ∷ (take found.0 text ++ rest.0)) ≡ None = ap (λ (u : Bool). cond u (later 1 (misfit_of parts (take found.0 text ++ rest.0))) (Some 0)) t ∙ ap (later 1) rest.1 in
    (rest.0, subst (λ (x : ℕ). misfit_of (Mark m ∷ parts) (take x (b ∷ text) ++ rest.0) ≡ None) (sym (found.2 ∙ one-add found.0)) fits)
mark-goes_on parts m b p text rec false t e =
    let zeroth : 0 ≡ p = cc in
    (blank (Mark m ∷ parts), subst (λ (x : ℕ). misfit_of (Mark m ∷ parts) (take x (b ∷ text) ++ blank (Mark m ∷ parts)) ≡ None) zeroth (misfit_of-blank (Mark m ∷ parts)))

digit-goes_on : (parts : List Part) (h p : ℕ) (text : List ℕ) (test : Bool) → ltb (digit_value h) 16 ≡ test → cond test (Some 1) (Some 0) ≡ Some p → GoesOn (Octet ∷ parts) (h ∷ text) p
unfolding misfit_of
digit-goes_on parts h p text true t e =
    let first : 1 ≡ p = cc in
    let fits : misfit_of (Octet ∷ parts) (h ∷ 48 ∷ blank parts) ≡ None = ap (λ (u : Bool). after_pair (cond u (Ok (16 * digit_value h + 0)) (Err 0)) (misfit_of parts (blank parts))) t ∙ ap (later 2) (misfit_of-blank parts) in
    (48 ∷ blank parts, subst (λ (x : ℕ). misfit_of (Octet ∷ parts) (take x (h ∷ text) ++ 48 ∷ blank parts) ≡ None) first fits)
digit-goes_on parts h p text false t e =
    let zeroth : 0 ≡ p = cc in
    (blank (Octet ∷ parts), subst (λ (x : ℕ). misfit_of (Octet ∷ parts) (take x (h ∷ text) ++ blank (Octet ∷ parts)) ≡ None) zeroth (misfit_of-blank (Octet ∷ parts)))

pair-goes_on : (parts : List Part) (h l p : ℕ) (text : List ℕ) → ((q : ℕ) → misfit_of parts text ≡ Some q → GoesOn parts text q) → (t u : Bool) → ltb (digit_value h) 16 ≡ t → ltb (digit_value l) 16 ≡ u → after_pair (cond t (cond u (Ok (16 * digit_value h + digit_value l)) (Err 1)) (Err 0)) (misfit_of parts text) ≡ Some p → GoesOn (Octet ∷ parts) (h ∷ l ∷ text) p
unfolding misfit_of
pair-goes_on parts h l p text rec true true t u e =
    let found = later-is_some 2 p (misfit_of parts text) e in
    let rest = rec found.0 found.1 in
    let pair : pair_of h l ≡ Ok (16 * digit_value h + digit_value l) = ap (λ (x : Bool). cond x (cond (ltb (digit_value l) 16) (Ok (16 * digit_value h + digit_value l)) (Err 1)) (Err 0)) t ∙ ap (λ (x : Bool). cond x (Ok (16 * digit_value h + digit_value l)) (Err 1)) u in
    let fits : misfit_of (Octet ∷ parts) (h ∷ l ∷ (take found.0 text ++ rest.0)) ≡ None = ap (λ (x : Result ℕ ℕ). after_pair x (misfit_of parts (take found.0 text ++ rest.0))) pair ∙ ap (later 2) rest.1 in
    let two : p ≡ suc (suc found.0) = omega arith in
    (rest.0, subst (λ (x : ℕ). misfit_of (Octet ∷ parts) (take x (h ∷ l ∷ text) ++ rest.0) ≡ None) (sym two) fits)
pair-goes_on parts h l p text rec true false t u e = digit-goes_on parts h p (l ∷ text) true t e
pair-goes_on parts h l p text rec false v t u e = digit-goes_on parts h p (l ∷ text) false t e

pub misfit_of-goes_on : (parts : List Part) (text : List ℕ) (p : ℕ) → misfit_of parts text ≡ Some p → GoesOn parts text p
unfolding misfit_of
misfit_of-goes_on [] [] p e = cc
misfit_of-goes_on [] (b ∷ text) p e = let zeroth : 0 ≡ p = cc in ([], subst (λ (x : ℕ). misfit_of [] (take x (b ∷ text) ++ []) ≡ None) zeroth refl)
misfit_of-goes_on (Mark m ∷ parts) [] p e = let zeroth : 0 ≡ p = cc in (blank (Mark m ∷ parts), subst (λ (x : ℕ). misfit_of (Mark m ∷ parts) (take x [] ++ blank (Mark m ∷ parts)) ≡ None) zeroth (misfit_of-blank (Mark m ∷ parts)))
misfit_of-goes_on (Mark m ∷ parts) (b ∷ text) p e = mark-goes_on parts m b p text (misfit_of-goes_on parts text) (eqb b m) refl e
misfit_of-goes_on (Octet ∷ parts) [] p e = let zeroth : 0 ≡ p = cc in (blank (Octet ∷ parts), subst (λ (x : ℕ). misfit_of (Octet ∷ parts) (take x [] ++ blank (Octet ∷ parts)) ≡ None) zeroth (misfit_of-blank (Octet ∷ parts)))
misfit_of-goes_on (Octet ∷ parts) (h ∷ []) p e = digit-goes_on parts h p [] (ltb (digit_value h) 16) refl e
misfit_of-goes_on (Octet ∷ parts) (h ∷ l ∷ text) p e = pair-goes_on parts h l p text (misfit_of-goes_on parts text) (ltb (digit_value h) 16) (ltb (digit_value l) 16) refl refl e

pair-within : (one : Option ℕ) (n p : ℕ) → ((q : ℕ) → one ≡ Some q → q ≤ n) → (t u : Bool) (a : ℕ) → after_pair (cond t (cond u (Ok a) (Err 1)) (Err 0)) one ≡ Some p → p ≤ n + 2
pair-within one n p rec true true a e = let found = later-is_some 2 p one e in let here = rec found.0 found.1 in omega arith
pair-within one n p rec true false a e = let same : 1 ≡ p = cc in omega arith
pair-within one n p rec false u a e = let same : 0 ≡ p = cc in omega arith

mark-within : (one : Option ℕ) (n p : ℕ) → ((q : ℕ) → one ≡ Some q → q ≤ n) → (t : Bool) → cond t (later 1 one) (Some 0) ≡ Some p → p ≤ n + 1
mark-within one n p rec true e = let found = later-is_some 1 p one e in let here = rec found.0 found.1 in omega arith
mark-within one n p rec false e = let same : 0 ≡ p = cc in omega arith

digit-within : (t : Bool) (p : ℕ) → cond t (Some 1) (Some 0) ≡ Some p → p ≤ 1
digit-within true p e = let same : 1 ≡ p = cc in omega arith
digit-within false p e = let same : 0 ≡ p = cc in omega arith

pub misfit_of-within : (parts : List Part) (text : List ℕ) (p : ℕ) → misfit_of parts text ≡ Some p → p ≤ length text
unfolding misfit_of
misfit_of-within [] [] p e = cc
misfit_of-within [] (b ∷ text) p e = let same : 0 ≡ p = cc in omega arith
misfit_of-within (Mark m ∷ parts) [] p e = let same : 0 ≡ p = cc in omega arith
misfit_of-within (Mark m ∷ parts) (b ∷ text) p e = let step = mark-within (misfit_of parts text) (length text) p (misfit_of-within parts text) (eqb b m) e in omega arith
misfit_of-within (Octet ∷ parts) [] p e = let same : 0 ≡ p = cc in omega arith
misfit_of-within (Octet ∷ parts) (h ∷ []) p e = digit-within (ltb (digit_value h) 16) p e
misfit_of-within (Octet ∷ parts) (h ∷ l ∷ text) p e = let step = pair-within (misfit_of parts text) (length text) p (misfit_of-within parts text) (ltb (digit_value h) 16) (ltb (digit_value l) 16) _ e in omega arith
