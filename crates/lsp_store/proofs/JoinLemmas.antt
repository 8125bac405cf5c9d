-- Two pages, one after the other, made one.
use Rattle.std.proofs.Common.{◌≡◌, ℕ, zero, suc, ◌+◌, ◌<◌, ◌≤◌, List, [], ◌∷◌, ◌++◌, length, length-append, get_or, set, refl, ap, ap₂, ◌∙◌, arith}
use Rattle.std.specs.List.{remove}
use Rattle.std.proofs.lemmas.List.{append_assoc, get_or_default}
use Rattle.isis_base.specs.declared.identifiers.LspId.{LspId}
use Rattle.lsp_store.specs.Places.{flatten, AllFilled}
use Rattle.lsp_store.specs.PageFacts.{joined}
use Rattle.lsp_store.specs.Rooms.{strain}
use Rattle.lsp_store.proofs.RoomLemmas.{strain-le}
use Rattle.lsp_store.proofs.PageLemmas.{filled-at, filled-set, filled-remove}

at-removed : {T : Type 0} (pages : List (List (LspId × T))) (k : ℕ) (d : List (LspId × T)) → suc k < length pages → get_or (remove pages (suc k)) k d ≡ get_or pages k d
at-removed [] k d lt = absurd (omega arith)
at-removed (p ∷ ps) zero d lt = refl
at-removed (p ∷ ps) (suc k) d lt = at-removed ps k d (omega arith)

length-removed : {T : Type 0} (pages : List (List (LspId × T))) (k : ℕ) → k < length pages → suc (length (remove pages k)) ≡ length pages
length-removed [] k lt = absurd (omega arith)
length-removed (p ∷ ps) zero lt = refl
length-removed (p ∷ ps) (suc k) lt = ap suc (length-removed ps k (omega arith))

-- as a body that joins two pages leaves the list
pub is-joined : {T : Type 0} (pages left : List (List (LspId × T))) (k next : ℕ) (page upper new : List (LspId × T)) → suc k < length pages → next ≡ suc k → left ≡ remove pages next → upper ≡ get_or pages next upper → page ≡ get_or left k page → new ≡ page ++ upper → set left k new ≡ joined pages k
is-joined {T} pages left k next page upper new lt m less high low all =
    let inside : next < length pages = omega (arith, m, lt) in
    let removed = less ∙ ap (remove pages) m in
    let one : upper ≡ get_or pages (suc k) [] = high ∙ get_or_default pages next upper [] inside ∙ ap (λ (i : ℕ). get_or pages i []) m in
    let two : page ≡ get_or pages k [] = low ∙ ap (λ (ps : List (List (LspId × T))). get_or ps k page) removed ∙ at-removed pages k page lt ∙ get_or_default pages k page [] (omega (arith, lt)) in
    ap₂ (λ (ps : List (List (LspId × T))) (p : List (LspId × T)). set ps k p) removed (all ∙ ap₂ (λ (p q : List (LspId × T)). p ++ q) two one)

pub joined-flat : {T : Type 0} (pages : List (List (LspId × T))) (k : ℕ) → suc k < length pages → flatten (joined pages k) ≡ flatten pages
joined-flat [] k lt = absurd (omega arith)
joined-flat (p ∷ []) k lt = absurd (omega arith)
joined-flat (p ∷ q ∷ ps) zero lt = append_assoc p q (flatten ps)
joined-flat (p ∷ q ∷ ps) (suc k) lt = ap (λ (xs : List _). p ++ xs) (joined-flat (q ∷ ps) k (omega arith))

pub joined-filled : {T : Type 0} (pages : List (List (LspId × T))) (k : ℕ) → suc k < length pages → length (get_or pages k []) + length (get_or pages (suc k) []) ≤ 32 → AllFilled pages → AllFilled (joined pages k)
joined-filled pages k lt few f =
    let some = (filled-at pages k [] f (omega (arith, lt))).0 in
    let len = length-append (get_or pages k []) (get_or pages (suc k) []) in
    filled-set (remove pages (suc k)) k (get_or pages k [] ++ get_or pages (suc k) []) (filled-remove pages (suc k) f) (omega (arith, some, len)) (omega (arith, len, few))

pub joined-strain : {T : Type 0} (pages : List (List (LspId × T))) (k : ℕ) → suc k < length pages → length (get_or pages k []) + length (get_or pages (suc k) []) ≤ 32 → strain (joined pages k) ≤ strain pages + 32
joined-strain [] k lt few = absurd (omega arith)
joined-strain (p ∷ []) k lt few = absurd (omega arith)
joined-strain (p ∷ q ∷ []) zero lt few = let len = length-append p q in omega (arith, few, len)
joined-strain (p ∷ q ∷ r ∷ ps) zero lt few = let len = length-append p q in omega (arith, few, len)
joined-strain (p ∷ q ∷ ps) (suc k) lt few =
    let a = strain-le p (joined (q ∷ ps) k) in
    let b = joined-strain (q ∷ ps) k (omega arith) few in
    omega (arith, a, b)
