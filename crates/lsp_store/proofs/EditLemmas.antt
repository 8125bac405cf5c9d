-- An edit of the page at a place, as an edit of all pairs.
use Rattle.std.proofs.Common.{◌≡◌, ℕ, zero, suc, ◌+◌, ◌-◌, ◌<◌, ◌≤◌, List, [], ◌∷◌, ◌++◌, length, get_or, set, Option, Some, None, is_some, IfSome, slice_get, inl, inr, if◌then◌else◌, refl, sym, ap, ◌∙◌, subst, arith, length-set}
use Rattle.std.specs.List.{insert, remove}
use Rattle.std.specs.Option.{option_to_list}
use Rattle.std.proofs.lemmas.List.{get_or_default}
use Rattle.std.proofs.lemmas.List.Edits.{length-insert, length-remove}
use Rattle.std.proofs.lemmas.Bool.Decides.{nat_tests}
use Rattle.isis_base.specs.declared.identifiers.LspId.{LspId}
use Rattle.isis_base.specs.Identifiers.{lsp_number}
use Rattle.lsp_store.specs.Maps.{find, put, erase, RisesFrom}
use Rattle.lsp_store.specs.PageMaps.{PageMap, with_put, without}
use Rattle.lsp_store.specs.Places.{IsPlace, IsGap, IsHeldAt, IsGapAt, IsFreeAt, flatten, AllFilled, AllEmpty}
use Rattle.lsp_store.proofs.MapLemmas.{find-place, find-read, find-taken, find-gap, put-place, put-gap, erase-place, length-put, length-erase, choose}
use Rattle.lsp_store.proofs.PageLemmas.{find-home, put-home, erase-home, filled-at, filled-set, empty-pop}

-- the page that is read at a place
pub is-page : {T : Type 0} (pages : List (List (LspId × T))) (k : ℕ) (page : List (LspId × T)) → k < length pages → page ≡ get_or pages k page → page ≡ get_or pages k []
is-page pages k page lt e = e ∙ get_or_default pages k page [] lt

module _ {T : Type 0} (pages : List (List (LspId × T))) (n : ℕ) (at : ℕ × ℕ) (h : IsHeldAt pages n at) (page : List (LspId × T)) (e : page ≡ get_or pages at.0 page) where
  place-in : IsPlace page n at.1
  place-in = subst (λ (p : List (LspId × T)). IsPlace p n at.1) (sym (is-page pages at.0 page h.home.inside e)) h.place

  at-home : find (flatten pages) n ≡ find page n
  at-home = find-home pages n at.0 page h.home ∙ ap (λ (p : List (LspId × T)). find p n) (sym e)

  pub held-size : (0 < length page) × (length page ≤ 64) → AllFilled pages → (0 < length page) × (length page ≤ 64)
  held-size s f = s

  pub held-bounds : AllFilled pages → (0 < length page) × (length page ≤ 64)
  held-bounds f = subst (λ (p : List (LspId × T)). (0 < length p) × (length p ≤ 64)) (sym e) (filled-at pages at.0 page f h.home.inside)

  -- the value is read
  pub held-read : (pair : LspId × T) → pair ≡ get_or page at.1 pair → find (flatten pages) n ≡ Some pair.1
  held-read pair r = at-home ∙ find-read page n at.1 pair place-in r

  pub held-value : (id : LspId) (v : T) → v ≡ (get_or page at.1 (id, v)).1 → find (flatten pages) n ≡ Some v
  held-value id v r = at-home ∙ find-place page n at.1 (id, v) place-in ∙ ap (λ (w : T). Some w) (sym r)

  pub held-taken : (v : T) → IfSome (slice_get page at.1) (λ pair. v ≡ pair.1) → find (flatten pages) n ≡ Some v
  held-taken v r = at-home ∙ find-taken page n at.1 v place-in r

  -- the pair is taken out
  pub held-erased : (new : List (LspId × T)) → new ≡ remove page at.1 → flatten (set pages at.0 new) ≡ erase (flatten pages) n
  held-erased new r =
      ap (λ (p : List (LspId × T)). flatten (set pages at.0 p)) (r ∙ sym (erase-place page n at.1 place-in) ∙ ap (λ (p : List (LspId × T)). erase p n) e)
      ∙ sym (erase-home pages n at.0 page h.home)

  pub held-left : (new : List (LspId × T)) → new ≡ remove page at.1 → AllFilled pages → 0 < length new → AllFilled (set pages at.0 new)
  held-left new r f some =
      let one = length-remove page at.1 place-in.inside in
      let b = held-bounds f in
      let len = ap length r in
      filled-set pages at.0 new f some (let m = b.1 in omega (arith, one, m, len))

module _ {T : Type 0} (pages : List (List (LspId × T))) (id : LspId) (at : ℕ × ℕ) (h : IsHeldAt pages (lsp_number id) at) (page : List (LspId × T)) (e : page ≡ get_or pages at.0 page) where
  -- another value is put in the place
  pub held-put : (v : T) (new : List (LspId × T)) → new ≡ set page at.1 (id, v) → flatten (set pages at.0 new) ≡ put (flatten pages) id v
  held-put v new r =
      ap (λ (p : List (LspId × T)). flatten (set pages at.0 p)) (r ∙ sym (put-place page id v at.1 (place-in pages (lsp_number id) at h page e)) ∙ ap (λ (p : List (LspId × T)). put p id v) e)
      ∙ sym (put-home pages id v at.0 page h.home)

  pub held-filled : (v : T) (new : List (LspId × T)) → new ≡ set page at.1 (id, v) → AllFilled pages → AllFilled (set pages at.0 new)
  held-filled v new r f =
      let b = held-bounds pages (lsp_number id) at h page e f in
      let len = ap length r ∙ length-set page at.1 (id, v) in
      filled-set pages at.0 new f (let m = b.0 in omega (arith, m, len)) (let m = b.1 in omega (arith, m, len))

module _ {T : Type 0} (pages : List (List (LspId × T))) (id : LspId) (at : ℕ × ℕ) (h : IsGapAt pages (lsp_number id) at) (page : List (LspId × T)) (e : page ≡ get_or pages at.0 page) (v : T) (new : List (LspId × T)) (r : new ≡ insert page at.1 (id, v)) where
  same-page : page ≡ get_or pages at.0 []
  same-page = is-page pages at.0 page h.home.inside e

  -- a pair is put in the gap
  pub gap-put : flatten (set pages at.0 new) ≡ put (flatten pages) id v
  gap-put =
      let gap = subst (λ (p : List (LspId × T)). IsGap p (lsp_number id) at.1) (sym same-page) h.gap in
      ap (λ (p : List (LspId × T)). flatten (set pages at.0 p)) (r ∙ sym (put-gap page id v at.1 gap) ∙ ap (λ (p : List (LspId × T)). put p id v) e)
      ∙ sym (put-home pages id v at.0 page h.home)

  pub gap-filled : AllFilled pages → length (get_or pages at.0 []) < 64 → AllFilled (set pages at.0 new)
  gap-filled f few =
      let size = ap length same-page in
      let bound = h.bound in
      let len = ap length r ∙ length-insert page at.1 (id, v) (omega (arith, size, bound)) in
      filled-set pages at.0 new f (omega (arith, len)) (omega (arith, len, size, few))

-- an empty page is given up
pub flat-given_up : {T : Type 0} (pages : List (List (LspId × T))) (k : ℕ) (q : List (LspId × T)) → k < length pages → q ≡ [] → flatten (remove (set pages k q) k) ≡ flatten (set pages k q)
flat-given_up [] k q lt e = absurd (omega arith)
flat-given_up {T} (p ∷ ps) zero q lt e = ap (λ (xs : List (LspId × T)). xs ++ flatten ps) (sym e)
flat-given_up {T} (p ∷ ps) (suc k) q lt e = ap (λ (xs : List (LspId × T)). p ++ xs) (flat-given_up ps k q (omega arith) e)

pub filled-given_up : {T : Type 0} (pages : List (List (LspId × T))) (k : ℕ) (q : List (LspId × T)) → AllFilled pages → AllFilled (remove (set pages k q) k)
filled-given_up [] zero q f = tt
filled-given_up [] (suc k) q f = tt
filled-given_up (p ∷ ps) zero q f = f.2
filled-given_up (p ∷ ps) (suc k) q f = (f.0, f.1, filled-given_up ps k q f.2)

pub none-left : {X : Type 0} (xs : List X) → (0 < length xs → ⊥) → xs ≡ []
none-left [] h = refl
none-left (x ∷ xs) h = absurd (h (omega arith))

-- the last one of the empty pages
pub last-empty : {T : Type 0} (old rest : List (List (LspId × T))) (o : Option (List (LspId × T))) (page : List (LspId × T)) → AllEmpty old → old ≡ rest ++ option_to_list o → o ≡ Some page → AllEmpty rest × (page ≡ [])
last-empty old rest o page h e is = empty-pop rest page (subst AllEmpty (e ∙ ap (λ (p : Option (List (LspId × _))). rest ++ option_to_list p) is) h)

-- a pair is put in a page with room
pub put-filled : {T : Type 0} (pages : List (List (LspId × T))) (k : ℕ) (id : LspId) (v : T) (page new : List (LspId × T)) → AllFilled pages → k < length pages → page ≡ get_or pages k page → length (get_or pages k []) < 64 → RisesFrom 0 page → new ≡ put page id v → AllFilled (set pages k new)
put-filled {T} pages k id v page new f lt e few up r =
    let size = ap length (is-page pages k page lt e) in
    let len = ap length r ∙ length-put page 0 id v up in
    let some : 0 < length page = let b = (filled-at pages k [] f lt).0 in omega (arith, b, size) in
    let bound : (length page ≤ length new) × (length new ≤ length page + 1) =
    subst (λ (m : ℕ). (length page ≤ m) × (m ≤ length page + 1)) (sym len) (choose (λ t. (length page ≤ (if t then length page else length page + 1)) × ((if t then length page else length page + 1) ≤ length page + 1)) (is_some (find page (lsp_number id))) (omega arith, omega arith) (omega arith, omega arith)) in
    let low = bound.0 in
    let high = bound.1 in
    filled-set pages k new f (omega (arith, low, some)) (omega (arith, high, size, few))

-- a number that has a gap
pub free-find : {T : Type 0} (pages : List (List (LspId × T))) (n : ℕ) (at : ℕ × ℕ) → IsFreeAt pages n at → find (flatten pages) n ≡ None
free-find {T} pages n at (inl e) = ap (λ (ps : List (List (LspId × T))). find (flatten ps) n) e
free-find {T} pages n at (inr h) = find-home pages n at.0 [] h.home ∙ find-gap (get_or pages at.0 []) n at.1 h.gap

erase-none : {T : Type 0} (m : List (LspId × T)) (n : ℕ) → find m n ≡ None → erase m n ≡ m
erase-none [] n e = refl
erase-none (p ∷ m) n e = grind (arith, nat_tests, e, erase-none m n)

pub free-erase : {T : Type 0} (pages : List (List (LspId × T))) (n : ℕ) (at : ℕ × ℕ) → IsFreeAt pages n at → erase (flatten pages) n ≡ flatten pages
free-erase pages n at h = erase-none (flatten pages) n (free-find pages n at h)

-- the number of pairs afterwards
pub length-new : {T : Type 0} (m : List (LspId × T)) (id : LspId) (v : T) → RisesFrom 0 m → find m (lsp_number id) ≡ None → length (put m id v) ≡ length m + 1
length-new m id v up e = length-put m 0 id v up ∙ ap (λ (o : Option _). if is_some o then length m else length m + 1) e

pub length-held : {T : Type 0} (m : List (LspId × T)) (id : LspId) (v w : T) → RisesFrom 0 m → find m (lsp_number id) ≡ Some w → length (put m id v) ≡ length m
length-held m id v w up e = length-put m 0 id v up ∙ ap (λ (o : Option _). if is_some o then length m else length m + 1) e

pub length-taken : {T : Type 0} (m : List (LspId × T)) (n : ℕ) (w : T) → find m n ≡ Some w → length (erase m n) + 1 ≡ length m
length-taken m n w e = subst (λ (o : Option _). length (erase m n) + (if is_some o then 1 else 0) ≡ length m) e (length-erase m n)

-- the map's value where a search of the pages found a gap
module _ {T : Type 0} (lent pages : List (List (LspId × T))) (spare : ℕ) (kept : PageMap T) (v : record { entries = flatten pages; spare = spare } ≡ kept) (n m : ℕ) (k : n ≡ m) (at : ℕ × ℕ) (h : IsFreeAt lent n at) (e : lent ≡ pages) where
  pub absent-inside : find (flatten pages) m ≡ None
  absent-inside = subst (λ (q : ℕ). find (flatten pages) q ≡ None) k (free-find pages n at (subst (λ (ps : List (List (LspId × T))). IsFreeAt ps n at) e h))

  pub absent : find kept.entries m ≡ None
  absent = subst (λ (w : PageMap T). find w.entries m ≡ None) v absent-inside

  pub left-alone : kept ≡ without kept m
  left-alone = subst (λ (w : PageMap T). w ≡ without w m) v (ap (λ (es : List (LspId × T)). let w : PageMap T = record { entries = es; spare = spare } in w) (sym (erase-none (flatten pages) m absent-inside)))

-- the map's value once a new pair is put
pub put-kept : {T : Type 0} (pages mid new : List (List (LspId × T))) (spare left : ℕ) (kept : PageMap T) (id : LspId) (value : T) → record { entries = flatten pages; spare = spare } ≡ kept → find (flatten pages) (lsp_number id) ≡ None → mid ≡ pages → flatten new ≡ put (flatten mid) id value → left ≡ spare - 1 → record { entries = flatten new; spare = left } ≡ with_put kept id value
put-kept {T} pages mid new spare left kept id value v none same all less =
    subst (λ (w : PageMap T). record { entries = flatten new; spare = left } ≡ with_put w id value) v
    (ap (λ (es : List (LspId × T)). let w : PageMap T = record { entries = es; spare = left } in w) (all ∙ ap (λ (ps : List (List (LspId × T))). put (flatten ps) id value) same)
    ∙ ap (λ (s : ℕ). let w : PageMap T = record { entries = put (flatten pages) id value; spare = s } in w) (less ∙ sym (ap (λ (o : Option T). if is_some o then spare else spare - 1) none)))

pub put-bound : {T : Type 0} (id : LspId) (v : T) (page new : List (LspId × T)) → RisesFrom 0 page → new ≡ put page id v → length new ≤ length page + 1
put-bound id v page new up r =
    let len = ap length r ∙ length-put page 0 id v up in
    subst (λ (m : ℕ). m ≤ length page + 1) (sym len) (choose (λ t. (if t then length page else length page + 1) ≤ length page + 1) (is_some (find page (lsp_number id))) (omega arith) (omega arith))

pub put-grows : {T : Type 0} (id : LspId) (v : T) (page new : List (LspId × T)) → RisesFrom 0 page → new ≡ put page id v → length page ≤ length new
put-grows id v page new up r =
    let len = ap length r ∙ length-put page 0 id v up in
    subst (λ (m : ℕ). length page ≤ m) (sym len) (choose (λ t. length page ≤ (if t then length page else length page + 1)) (is_some (find page (lsp_number id))) (omega arith) (omega arith))
