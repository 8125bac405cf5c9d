-- The first value that is noted, by pairs and by pages.
use Rattle.std.proofs.Common.{◌≡◌, Bool, true, false, if◌then◌else◌, ℕ, zero, suc, ◌<◌, ◌≤◌, List, [], ◌∷◌, ◌++◌, length, take, drop, get_or, Option, Some, None, IfSome, slice_get, refl, sym, ap, ap₂, ◌∙◌, subst, arith}
use Rattle.std.proofs.lemmas.List.{append-nil}
use Rattle.isis_base.specs.declared.identifiers.LspId.{LspId}
use Rattle.lsp_store.specs.Maps.{change_all, first_where, first_some}
use Rattle.lsp_store.specs.Places.{flatten}
use Rattle.lsp_store.specs.PageFacts.{change_pages}
use Rattle.lsp_store.proofs.MapLemmas.{slice_get-some}
use Rattle.lsp_store.proofs.ChangeLemmas.{get-part, length-part, get-pages}

-- what one pair tells
abbrev pub told : {T : Type 0} → (T → Bool) → LspId × T → Option LspId
told test pair = if test pair.1 then Some pair.0 else None

some-assoc : (a b c : Option LspId) → first_some a (first_some b c) ≡ first_some (first_some a b) c
some-assoc None b c = refl
some-assoc (Some id) b c = refl

pub some-none : (a : Option LspId) → first_some a None ≡ a
some-none None = refl
some-none (Some id) = refl

where-append : {T : Type 0} (test : T → Bool) (xs ys : List (LspId × T)) → first_where test (xs ++ ys) ≡ first_some (first_where test xs) (first_where test ys)
where-append test [] ys = refl
where-append {T} test (x ∷ xs) ys = cases (test x.1) (where-append test xs ys)
  where
    cases : (t : Bool) → first_where test (xs ++ ys) ≡ first_some (first_where test xs) (first_where test ys) → (if t then Some x.0 else first_where test (xs ++ ys)) ≡ first_some (if t then Some x.0 else first_where test xs) (first_where test ys)
    cases true h = refl
    cases false h = h

take-none : {X : Type 0} (xs : List X) → take 0 xs ≡ []
take-none [] = refl
take-none (x ∷ xs) = refl

pub take-whole : {X : Type 0} (xs : List X) (i : ℕ) → length xs ≤ i → take i xs ≡ xs
take-whole [] zero le = refl
take-whole [] (suc i) le = refl
take-whole (x ∷ xs) zero le = absurd (omega arith)
take-whole (x ∷ xs) (suc i) le = ap (λ (ys : List _). x ∷ ys) (take-whole xs i (omega arith))

-- ---- pairs

pairs-step : {T : Type 0} (f : T → T) (test : T → Bool) (xs : List (LspId × T)) (i : ℕ) (d : LspId × T) → i < length xs → first_some (first_where test (change_all f (take i xs))) (told test ((get_or xs i d).0, f (get_or xs i d).1)) ≡ first_where test (change_all f (take (suc i) xs))
pairs-step f test [] i d lt = absurd (omega arith)
pairs-step f test (x ∷ xs) zero d lt = ap (λ (ys : List _). first_where test ((x.0, f x.1) ∷ change_all f ys)) (sym (take-none xs))
pairs-step {T} f test (x ∷ xs) (suc i) d lt = cases (test (f x.1)) (pairs-step f test xs i d (omega arith))
  where
    here : Option LspId
    here = told test ((get_or xs i d).0, f (get_or xs i d).1)

    cases : (t : Bool) → first_some (first_where test (change_all f (take i xs))) here ≡ first_where test (change_all f (take (suc i) xs)) → first_some (if t then Some x.0 else first_where test (change_all f (take i xs))) here ≡ (if t then Some x.0 else first_where test (change_all f (take (suc i) xs)))
    cases true h = refl
    cases false h = h

pub pairs-noted : {T : Type 0} (f : T → T) (test : T → Bool) (xs now : List (LspId × T)) (i next : ℕ) (first here : Option LspId) → i < length xs → next ≡ suc i → now ≡ change_all f (take i xs) ++ drop i xs → first ≡ first_where test (change_all f (take i xs)) → IfSome (slice_get now i) (λ pair. here ≡ (if test (f pair.1) then Some pair.0 else None)) → first_some first here ≡ first_where test (change_all f (take next xs))
pairs-noted f test [] now i next first here lt m e w r = absurd (omega arith)
pairs-noted {T} f test (x ∷ xs) now i next first here lt m e w r =
    let all = x ∷ xs in
    let part = change_all f (take i all) ++ drop i all in
    let len = length-part f all i in
    let at : slice_get now i ≡ Some (get_or all i x) = ap (λ (ys : List (LspId × T)). slice_get ys i) e ∙ slice_get-some part i x (omega (arith, len, lt)) ∙ ap (λ (p : LspId × T). Some p) (get-part f all i x lt) in
    let y = get_or all i x in
    let read : here ≡ told test (y.0, f y.1) = subst (λ (o : Option (LspId × T)). IfSome o (λ pair. here ≡ told test (pair.0, f pair.1))) at r in
    ap₂ first_some w read ∙ pairs-step f test all i x lt ∙ ap (λ (k : ℕ). first_where test (change_all f (take k all))) (sym m)

pub pairs-all : {T : Type 0} (f : T → T) (test : T → Bool) (xs : List (LspId × T)) (i : ℕ) → length xs ≤ i → first_where test (change_all f (take i xs)) ≡ first_where test (change_all f xs)
pairs-all f test xs i le = ap (λ (ys : List _). first_where test (change_all f ys)) (take-whole xs i le)

-- ---- pages

pages-step : {T : Type 0} (f : T → T) (test : T → Bool) (ps : List (List (LspId × T))) (i : ℕ) (d : List (LspId × T)) → i < length ps → first_some (first_where test (flatten (change_pages f (take i ps)))) (first_where test (change_all f (get_or ps i d))) ≡ first_where test (flatten (change_pages f (take (suc i) ps)))
pages-step f test [] i d lt = absurd (omega arith)
pages-step f test (p ∷ ps) zero d lt =
    ap (first_where test) (sym (append-nil (change_all f p))) ∙ ap (λ (qs : List _). first_where test (change_all f p ++ flatten (change_pages f qs))) (sym (take-none ps))
pages-step f test (p ∷ ps) (suc i) d lt =
    ap (λ (o : Option LspId). first_some o (first_where test (change_all f (get_or ps i d)))) (where-append test (change_all f p) (flatten (change_pages f (take i ps))))
    ∙ sym (some-assoc (first_where test (change_all f p)) (first_where test (flatten (change_pages f (take i ps)))) (first_where test (change_all f (get_or ps i d))))
    ∙ ap (first_some (first_where test (change_all f p))) (pages-step f test ps i d (omega arith))
    ∙ sym (where-append test (change_all f p) (flatten (change_pages f (take (suc i) ps))))

pub pages-noted : {T : Type 0} (f : T → T) (test : T → Bool) (ps now : List (List (LspId × T))) (page new : List (LspId × T)) (i next : ℕ) (first here : Option LspId) → i < length ps → next ≡ suc i → now ≡ change_pages f (take i ps) ++ drop i ps → page ≡ get_or now i page → new ≡ change_all f page → first ≡ first_where test (flatten (change_pages f (take i ps))) → here ≡ first_where test new → first_some first here ≡ first_where test (flatten (change_pages f (take next ps)))
pages-noted {T} f test ps now page new i next first here lt m e at r w h =
    let same : page ≡ get_or ps i page = at ∙ ap (λ (qs : List (List (LspId × T))). get_or qs i page) e ∙ get-pages f ps i page lt in
    ap₂ first_some w (h ∙ ap (first_where test) (r ∙ ap (change_all f) same)) ∙ pages-step f test ps i page lt
    ∙ ap (λ (k : ℕ). first_where test (flatten (change_pages f (take k ps)))) (sym m)

pub pages-all : {T : Type 0} (f : T → T) (test : T → Bool) (ps : List (List (LspId × T))) (i : ℕ) → length ps ≤ i → first_where test (flatten (change_pages f (take i ps))) ≡ first_where test (flatten (change_pages f ps))
pages-all f test ps i le = ap (λ (qs : List _). first_where test (flatten (change_pages f qs))) (take-whole ps i le)
