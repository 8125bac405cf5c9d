-- Values changed in place, by pairs and by pages.
use Rattle.std.proofs.Common.{◌≡◌, ◌==◌, if◌then◌else◌, ℕ, zero, suc, ◌+◌, ◌<◌, ◌≤◌, List, [], ◌∷◌, ◌++◌, length, take, drop, get_or, set, Option, Some, None, IfSome, slice_get, refl, sym, ap, ap₂, ◌∙◌, subst, arith}
use Rattle.std.proofs.lemmas.Bool.Decides.{nat_tests}
use Rattle.std.proofs.lemmas.List.{take-append-drop, set_split, drop_more, get_or_default}
use Rattle.isis_base.specs.declared.identifiers.LspId.{LspId}
use Rattle.lsp_store.specs.Maps.{pair_number, find, change_at, change_all, RisesFrom}
use Rattle.lsp_store.specs.Places.{AllBelow, AllAbove, IsPlace, IsHome, IsHeldAt, flatten, AllFilled}
use Rattle.lsp_store.specs.PageFacts.{change_pages}
use Rattle.lsp_store.specs.Rooms.{strain}
use Rattle.lsp_store.proofs.MapLemmas.{slice_get-some, choose}
use Rattle.lsp_store.proofs.PageLemmas.{flat-at, flat-set, filled-at, filled-set}

-- ---- the value of one number

pub change-below : {T : Type 0} (f : T → T) (n : ℕ) (xs ys : List (LspId × T)) → AllBelow n xs → change_at f (xs ++ ys) n ≡ xs ++ change_at f ys n
change-below f n [] ys a = refl
change-below f n (x ∷ xs) ys a = let h = a.0 in grind (arith, nat_tests, h, change-below f n xs ys a.1)

pub change-above : {T : Type 0} (f : T → T) (n : ℕ) (xs ys : List (LspId × T)) → AllAbove n ys → change_at f (xs ++ ys) n ≡ change_at f xs n ++ ys
change-above f n [] [] a = refl
change-above f n [] (y ∷ ys) a = let h = a.0 in grind (arith, nat_tests, h, change-above f n [] ys a.1)
change-above f n (x ∷ xs) ys a = grind (arith, nat_tests, change-above f n xs ys a)

pub length-change_at : {T : Type 0} (f : T → T) (n : ℕ) (xs : List (LspId × T)) → length (change_at f xs n) ≡ length xs
length-change_at f n [] = refl
length-change_at f n (x ∷ xs) = grind (arith, nat_tests, length-change_at f n xs)

place-change : {T : Type 0} (f : T → T) (xs : List (LspId × T)) (n i : ℕ) (d : LspId × T) → IsPlace xs n i → change_at f xs n ≡ set xs i ((get_or xs i d).0, f (get_or xs i d).1)
place-change {T} f xs n i d at =
    let h = at.here d in
    let y = get_or xs i d in
    subst (λ (ys : List (LspId × T)). change_at f ys n ≡ set xs i (y.0, f y.1)) (take-append-drop i xs) (change-below f n (take i xs) (drop i xs) at.low ∙ rw (set_split xs i (y.0, f y.1) at.inside, drop_more xs i d at.inside) (ap (λ (ys : List (LspId × T)). take i xs ++ ys) (grind (arith, nat_tests, h))))

-- as a body that changes the pair at a place leaves the pairs
pub change-place : {T : Type 0} (f : T → T) (xs new : List (LspId × T)) (n i : ℕ) → IsPlace xs n i → IfSome (slice_get xs i) (λ pair. new ≡ set xs i (pair.0, f pair.1)) → new ≡ change_at f xs n
change-place {T} f [] new n i at e = absurd (let h = at.inside in omega (arith, h))
change-place {T} f (x ∷ xs) new n i at e =
    subst (λ (o : Option (LspId × T)). IfSome o (λ pair. new ≡ set (x ∷ xs) i (pair.0, f pair.1))) (slice_get-some (x ∷ xs) i x at.inside) e ∙ sym (place-change f (x ∷ xs) n i x at)

pub change-home : {T : Type 0} (f : T → T) (pages : List (List (LspId × T))) (n k : ℕ) (d : List (LspId × T)) → IsHome pages n k → change_at f (flatten pages) n ≡ flatten (set pages k (change_at f (get_or pages k d) n))
change-home {T} f pages n k d h =
    ap (λ (xs : List (LspId × T)). change_at f xs n) (flat-at pages k d h.inside) ∙ change-below f n (flatten (take k pages)) (get_or pages k d ++ flatten (drop (suc k) pages)) h.low
    ∙ ap (λ (xs : List (LspId × T)). flatten (take k pages) ++ xs) (change-above f n (get_or pages k d) (flatten (drop (suc k) pages)) h.high) ∙ sym (flat-set pages k (change_at f (get_or pages k d) n) h.inside)

module _ {T : Type 0} (f : T → T) (pages : List (List (LspId × T))) (n : ℕ) (at : ℕ × ℕ) (h : IsHeldAt pages n at) (page new : List (LspId × T)) (e : page ≡ get_or pages at.0 page) (r : IfSome (slice_get page at.1) (λ pair. new ≡ set page at.1 (pair.0, f pair.1))) where
  page-same : page ≡ get_or pages at.0 []
  page-same = e ∙ get_or_default pages at.0 page [] h.home.inside

  page-new : new ≡ change_at f page n
  page-new = change-place f page new n at.1 (subst (λ (p : List (LspId × T)). IsPlace p n at.1) (sym page-same) h.place) r

  pub change-flat : flatten (set pages at.0 new) ≡ change_at f (flatten pages) n
  change-flat =
      ap (λ (p : List (LspId × T)). flatten (set pages at.0 p)) (page-new ∙ ap (λ (p : List (LspId × T)). change_at f p n) e) ∙ sym (change-home f pages n at.0 page h.home)

  pub change-length : length new ≡ length (get_or pages at.0 [])
  change-length = ap length page-new ∙ length-change_at f n page ∙ ap length page-same

  pub change-filled : AllFilled pages → AllFilled (set pages at.0 new)
  change-filled all =
      let len = change-length in
      let b = filled-at pages at.0 [] all h.home.inside in
      let low = b.0 in
      let high = b.1 in
      filled-set pages at.0 new all (omega (arith, len, low)) (omega (arith, len, high))

pub change-rises : {T : Type 0} (f : T → T) (n least : ℕ) (xs : List (LspId × T)) → RisesFrom least xs → RisesFrom least (change_at f xs n)
change-rises f n least [] r = tt
change-rises {T} f n least (x ∷ xs) r =
    choose (λ t. RisesFrom {T = T} least (if t then (x.0, f x.1) ∷ xs else x ∷ change_at f xs n)) (pair_number x == n) r (r.0, change-rises f n (pair_number x + 1) xs r.1)

-- a number that isn't there
pub change-absent : {T : Type 0} (f : T → T) (n : ℕ) (xs : List (LspId × T)) → find xs n ≡ None → change_at f xs n ≡ xs
change-absent f n [] e = refl
change-absent f n (x ∷ xs) e = grind (arith, nat_tests, e, change-absent f n xs)

-- ---- all values

pub length-change_all : {T : Type 0} (f : T → T) (xs : List (LspId × T)) → length (change_all f xs) ≡ length xs
length-change_all f [] = refl
length-change_all f (x ∷ xs) = ap suc (length-change_all f xs)

pub all-append : {T : Type 0} (f : T → T) (xs ys : List (LspId × T)) → change_all f (xs ++ ys) ≡ change_all f xs ++ change_all f ys
all-append f [] ys = refl
all-append f (x ∷ xs) ys = ap (λ (zs : List _). (x.0, f x.1) ∷ zs) (all-append f xs ys)

pub all-rises : {T : Type 0} (f : T → T) (least : ℕ) (xs : List (LspId × T)) → RisesFrom least xs → RisesFrom least (change_all f xs)
all-rises f least [] r = tt
all-rises f least (x ∷ xs) r = (r.0, all-rises f (pair_number x + 1) xs r.1)

-- the pairs before a place are changed, those from it on aren't yet
pub get-part : {T : Type 0} (f : T → T) (xs : List (LspId × T)) (i : ℕ) (d : LspId × T) → i < length xs → get_or (change_all f (take i xs) ++ drop i xs) i d ≡ get_or xs i d
get-part f [] i d lt = absurd (omega arith)
get-part f (x ∷ xs) zero d lt = refl
get-part f (x ∷ xs) (suc i) d lt = get-part f xs i d (omega arith)

pub length-part : {T : Type 0} (f : T → T) (xs : List (LspId × T)) (i : ℕ) → length (change_all f (take i xs) ++ drop i xs) ≡ length xs
length-part f [] zero = refl
length-part f [] (suc i) = refl
length-part f (x ∷ xs) zero = refl
length-part f (x ∷ xs) (suc i) = ap suc (length-part f xs i)

set-part : {T : Type 0} (f : T → T) (xs : List (LspId × T)) (i : ℕ) (d : LspId × T) → i < length xs → set (change_all f (take i xs) ++ drop i xs) i ((get_or xs i d).0, f (get_or xs i d).1) ≡ change_all f (take (suc i) xs) ++ drop (suc i) xs
set-part f [] i d lt = absurd (omega arith)
set-part f (x ∷ xs) zero d lt = refl
set-part f (x ∷ xs) (suc i) d lt = ap (λ (zs : List _). (x.0, f x.1) ∷ zs) (set-part f xs i d (omega arith))

pub pairs-turn : {T : Type 0} (f : T → T) (xs now new : List (LspId × T)) (i next : ℕ) → i < length xs → next ≡ suc i → now ≡ change_all f (take i xs) ++ drop i xs → IfSome (slice_get now i) (λ pair. new ≡ set now i (pair.0, f pair.1)) → new ≡ change_all f (take next xs) ++ drop next xs
pairs-turn f [] now new i next lt m e r = absurd (omega arith)
pairs-turn {T} f (x ∷ xs) now new i next lt m e r =
    let all = x ∷ xs in
    let part = change_all f (take i all) ++ drop i all in
    let len = length-part f all i in
    let at : slice_get now i ≡ Some (get_or all i x) = ap (λ (ys : List (LspId × T)). slice_get ys i) e ∙ slice_get-some part i x (omega (arith, len, lt)) ∙ ap (λ (p : LspId × T). Some p) (get-part f all i x lt) in
    let y = get_or all i x in
    let read : new ≡ set now i (y.0, f y.1) = subst (λ (o : Option (LspId × T)). IfSome o (λ pair. new ≡ set now i (pair.0, f pair.1))) at r in
    read ∙ ap (λ (ys : List (LspId × T)). set ys i (y.0, f y.1)) e ∙ set-part f all i x lt ∙ ap (λ (k : ℕ). change_all f (take k all) ++ drop k all) (sym m)

pub pairs-start : {T : Type 0} (f : T → T) (xs : List (LspId × T)) → xs ≡ change_all f (take 0 xs) ++ drop 0 xs
pairs-start f [] = refl
pairs-start f (x ∷ xs) = refl

pub pairs-end : {T : Type 0} (f : T → T) (xs : List (LspId × T)) (i : ℕ) → length xs ≤ i → change_all f (take i xs) ++ drop i xs ≡ change_all f xs
pairs-end f [] zero le = refl
pairs-end f [] (suc i) le = refl
pairs-end f (x ∷ xs) zero le = absurd (omega arith)
pairs-end f (x ∷ xs) (suc i) le = ap (λ (zs : List _). (x.0, f x.1) ∷ zs) (pairs-end f xs i (omega arith))

-- ---- all values of all pages

pub get-pages : {T : Type 0} (f : T → T) (ps : List (List (LspId × T))) (i : ℕ) (d : List (LspId × T)) → i < length ps → get_or (change_pages f (take i ps) ++ drop i ps) i d ≡ get_or ps i d
get-pages f [] i d lt = absurd (omega arith)
get-pages f (p ∷ ps) zero d lt = refl
get-pages f (p ∷ ps) (suc i) d lt = get-pages f ps i d (omega arith)

set-pages : {T : Type 0} (f : T → T) (ps : List (List (LspId × T))) (i : ℕ) (d : List (LspId × T)) → i < length ps → set (change_pages f (take i ps) ++ drop i ps) i (change_all f (get_or ps i d)) ≡ change_pages f (take (suc i) ps) ++ drop (suc i) ps
set-pages f [] i d lt = absurd (omega arith)
set-pages f (p ∷ ps) zero d lt = refl
set-pages f (p ∷ ps) (suc i) d lt = ap (λ (qs : List _). change_all f p ∷ qs) (set-pages f ps i d (omega arith))

pub pages-turn : {T : Type 0} (f : T → T) (ps now : List (List (LspId × T))) (page new : List (LspId × T)) (i next : ℕ) → i < length ps → next ≡ suc i → now ≡ change_pages f (take i ps) ++ drop i ps → page ≡ get_or now i page → new ≡ change_all f page → set now i new ≡ change_pages f (take next ps) ++ drop next ps
pages-turn {T} f ps now page new i next lt m e at r =
    let same : page ≡ get_or ps i page = at ∙ ap (λ (qs : List (List (LspId × T))). get_or qs i page) e ∙ get-pages f ps i page lt in
    ap₂ (λ (qs : List (List (LspId × T))) (q : List (LspId × T)). set qs i q) e (r ∙ ap (change_all f) same) ∙ set-pages f ps i page lt ∙ ap (λ (k : ℕ). change_pages f (take k ps) ++ drop k ps) (sym m)

pub pages-start : {T : Type 0} (f : T → T) (ps : List (List (LspId × T))) → ps ≡ change_pages f (take 0 ps) ++ drop 0 ps
pages-start f [] = refl
pages-start f (p ∷ ps) = refl

pub pages-end : {T : Type 0} (f : T → T) (ps : List (List (LspId × T))) (i : ℕ) → length ps ≤ i → change_pages f (take i ps) ++ drop i ps ≡ change_pages f ps
pages-end f [] zero le = refl
pages-end f [] (suc i) le = refl
pages-end f (p ∷ ps) zero le = absurd (omega arith)
pages-end f (p ∷ ps) (suc i) le = ap (λ (qs : List _). change_all f p ∷ qs) (pages-end f ps i (omega arith))

pub pages-flat : {T : Type 0} (f : T → T) (ps : List (List (LspId × T))) → flatten (change_pages f ps) ≡ change_all f (flatten ps)
pages-flat f [] = refl
pages-flat f (p ∷ ps) = ap (λ (xs : List _). change_all f p ++ xs) (pages-flat f ps) ∙ sym (all-append f p (flatten ps))

pub pages-filled : {T : Type 0} (f : T → T) (ps : List (List (LspId × T))) → AllFilled ps → AllFilled (change_pages f ps)
pages-filled f [] a = tt
pages-filled f (p ∷ ps) a =
    let len = length-change_all f p in
    let low = a.0 in
    let high = a.1 in
    (omega (arith, len, low), omega (arith, len, high), pages-filled f ps a.2)

pub pages-strain : {T : Type 0} (f : T → T) (ps : List (List (LspId × T))) → strain (change_pages f ps) ≡ strain ps
pages-strain f [] = refl
pages-strain f (p ∷ []) = length-change_all f p
pages-strain f (p ∷ q ∷ ps) = let len = length-change_all f p in let rest = pages-strain f (q ∷ ps) in omega (arith, len, rest)
