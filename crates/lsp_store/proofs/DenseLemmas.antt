-- Pages next to each other stay more than 32 pairs together.
use Rattle.std.proofs.Common.{◌≡◌, take, drop, ℕ, zero, suc, ◌+◌, ◌-◌, ◌<◌, ◌≤◌, ◌⊎◌, inl, inr, List, [], ◌∷◌, length, length-append, get_or, set, refl, ap, subst, arith}
use Rattle.std.specs.List.{remove}
use Rattle.isis_base.specs.declared.identifiers.LspId.{LspId}
use Rattle.lsp_store.specs.Places.{AllFilled}
use Rattle.lsp_store.specs.Rooms.{AreDense, AreNearlyDense}
use Rattle.lsp_store.specs.PageFacts.{change_pages, joined}
use Rattle.lsp_store.proofs.PageLemmas.{split, halves}
use Rattle.std.proofs.lemmas.List.{length-take-le, length-drop}
use Rattle.lsp_store.proofs.ChangeLemmas.{length-change_all}

-- a page that doesn't shrink
pub dense-set : {T : Type 0} (pages : List (List (LspId × T))) (k : ℕ) (q : List (LspId × T)) → k < length pages → length (get_or pages k []) ≤ length q → AreDense pages → AreDense (set pages k q)
dense-set [] k q lt le d = absurd (omega arith)
dense-set (p ∷ []) zero q lt le d = tt
dense-set (p ∷ []) (suc k) q lt le d = absurd (omega arith)
dense-set (p ∷ r ∷ ps) zero q lt le d = (let h = d.0 in omega (arith, h, le), d.1)
dense-set (p ∷ r ∷ ps) (suc zero) q lt le d = (let h = d.0 in omega (arith, h, le), dense-set (r ∷ ps) zero q (omega arith) le d.1)
dense-set (p ∷ r ∷ ps) (suc (suc k)) q lt le d = (d.0, dense-set (r ∷ ps) (suc k) q (omega arith) le d.1)

-- a page that is split
pub dense-split : {T : Type 0} (pages : List (List (LspId × T))) (k : ℕ) (q r : List (LspId × T)) → k < length pages → length q + length r ≡ 64 → (length q ≡ 32) ⊎ ((32 ≤ length q) × (suc k ≡ length pages)) → AllFilled pages → AreDense pages → AreDense (split pages k q r)
dense-split [] k q r lt both cut f d = absurd (omega arith)
dense-split (p ∷ []) zero q r lt both cut f d = (omega (arith, both), tt)
dense-split (p ∷ []) (suc k) q r lt both cut f d = absurd (omega arith)
dense-split (p ∷ s ∷ ps) zero q r lt both (inl e) f d = (omega (arith, both), (let h = f.2.0 in omega (arith, both, e, h), d.1))
dense-split (p ∷ s ∷ ps) zero q r lt both (inr h) f d = absurd (let a = h.1 in omega (arith, a))
dense-split (p ∷ s ∷ ps) (suc zero) q r lt both (inl e) f d = (let h = f.0 in omega (arith, e, h), dense-split (s ∷ ps) zero q r (omega arith) both (inl e) f.2 d.1)
dense-split (p ∷ s ∷ ps) (suc zero) q r lt both (inr h) f d =
    let a = h.0 in
    let b = h.1 in
    let c = f.0 in
    (omega (arith, a, c), dense-split (s ∷ ps) zero q r (omega arith) both (inr (a, omega (arith, b))) f.2 d.1)
dense-split (p ∷ s ∷ ps) (suc (suc k)) q r lt both (inl e) f d = (d.0, dense-split (s ∷ ps) (suc k) q r (omega arith) both (inl e) f.2 d.1)
dense-split (p ∷ s ∷ ps) (suc (suc k)) q r lt both (inr h) f d =
    let a = h.0 in
    let b = h.1 in
    (d.0, dense-split (s ∷ ps) (suc k) q r (omega arith) both (inr (a, omega (arith, b))) f.2 d.1)

pub dense-halves : {T : Type 0} (pages : List (List (LspId × T))) (k cut : ℕ) → k < length pages → length (get_or pages k []) ≡ 64 → (cut ≡ 32) ⊎ ((cut ≡ 63) × (k + 1 ≡ length pages)) → AllFilled pages → AreDense pages → AreDense (halves pages k cut)
dense-halves pages k cut lt full (inl e) f d =
    let page = get_or pages k [] in
    let low = length-take-le cut page (omega (arith, full, e)) in
    let high = length-drop cut page in
    dense-split pages k (take cut page) (drop cut page) lt (omega (arith, low, high, full, e)) (inl (omega (arith, low, e))) f d
dense-halves pages k cut lt full (inr h) f d =
    let page = get_or pages k [] in
    let e = h.0 in
    let last = h.1 in
    let low = length-take-le cut page (omega (arith, full, e)) in
    let high = length-drop cut page in
    dense-split pages k (take cut page) (drop cut page) lt (omega (arith, low, high, full, e)) (inr (omega (arith, low, e), omega (arith, last))) f d

-- a page that loses a pair
pub nearly-set : {T : Type 0} (pages : List (List (LspId × T))) (k : ℕ) (q : List (LspId × T)) → k < length pages → length (get_or pages k []) ≤ length q + 1 → AreDense pages → AreNearlyDense (set pages k q) k
nearly-set [] k q lt le d = absurd (omega arith)
nearly-set (p ∷ []) zero q lt le d = tt
nearly-set (p ∷ []) (suc k) q lt le d = absurd (omega arith)
nearly-set (p ∷ r ∷ ps) zero q lt le d = (let h = d.0 in omega (arith, h, le), d.1)
nearly-set (p ∷ r ∷ ps) (suc zero) q lt le d = (let h = d.0 in omega (arith, h, le), nearly-set (r ∷ ps) zero q (omega arith) le d.1)
nearly-set (p ∷ r ∷ ps) (suc (suc k)) q lt le d = (d.0, nearly-set (r ∷ ps) (suc k) q (omega arith) le d.1)

-- the only pair of a page: the page is given up
pub dense-given_up : {T : Type 0} (pages : List (List (LspId × T))) (k : ℕ) (q : List (LspId × T)) → k < length pages → length (get_or pages k []) ≤ 1 → AreDense pages → AreDense (remove (set pages k q) k)
dense-given_up [] k q lt le d = absurd (omega arith)
dense-given_up (p ∷ []) zero q lt le d = tt
dense-given_up (p ∷ []) (suc k) q lt le d = absurd (omega arith)
dense-given_up (p ∷ r ∷ ps) zero q lt le d = d.1
dense-given_up (p ∷ r ∷ []) (suc zero) q lt le d = tt
dense-given_up (p ∷ r ∷ s ∷ ps) (suc zero) q lt le d = (let a = d.0 in let b = d.1.0 in omega (arith, a, b, le), d.1.1)
dense-given_up (p ∷ r ∷ ps) (suc (suc k)) q lt le d = (d.0, dense-given_up (r ∷ ps) (suc k) q (omega arith) le d.1)

-- joined with the next one
pub dense-joined : {T : Type 0} (pages : List (List (LspId × T))) (k : ℕ) → suc k < length pages → AllFilled pages → AreNearlyDense pages k → AreDense (joined pages k)
dense-joined [] k lt f d = absurd (omega arith)
dense-joined (p ∷ []) k lt f d = absurd (omega arith)
dense-joined (p ∷ q ∷ []) zero lt f d = tt
dense-joined (p ∷ q ∷ r ∷ ps) zero lt f d = (let a = d.1.0 in let len = length-append p q in omega (arith, a, len), d.1.1)
dense-joined (p ∷ q ∷ []) (suc k) lt f d = absurd (omega arith)
dense-joined (p ∷ q ∷ r ∷ ps) (suc zero) lt f d = (let a = d.0 in let b = f.2.2.0 in let len = length-append q r in omega (arith, a, b, len), dense-joined (q ∷ r ∷ ps) zero (omega arith) f.2 d.1)
dense-joined (p ∷ q ∷ r ∷ ps) (suc (suc k)) lt f d = (d.0, dense-joined (q ∷ r ∷ ps) (suc k) (omega arith) f.2 d.1)

-- or with the one before, where the next one is well filled
pub dense-before : {T : Type 0} (pages : List (List (LspId × T))) (k : ℕ) → suc k < length pages → (suc (suc k) < length pages → 33 ≤ length (get_or pages (suc k) []) + length (get_or pages (suc (suc k)) [])) → AreNearlyDense pages (suc k) → AreDense (joined pages k)
dense-before [] k lt next d = absurd (omega arith)
dense-before (p ∷ []) k lt next d = absurd (omega arith)
dense-before (p ∷ q ∷ []) zero lt next d = tt
dense-before (p ∷ q ∷ r ∷ ps) zero lt next d = (let a = next (omega arith) in let len = length-append p q in omega (arith, a, len), d.1.1)
dense-before (p ∷ q ∷ []) (suc k) lt next d = absurd (omega arith)
dense-before (p ∷ q ∷ r ∷ ps) (suc zero) lt next d = (let a = d.0 in let len = length-append q r in omega (arith, a, len), dense-before (q ∷ r ∷ ps) zero (omega arith) (λ l. next (omega (arith, l))) d.1)
dense-before (p ∷ q ∷ r ∷ ps) (suc (suc k)) lt next d = (d.0, dense-before (q ∷ r ∷ ps) (suc k) (omega arith) (λ l. next (omega (arith, l))) d.1)

-- or with none, where both neighbours are well filled
pub dense-alone : {T : Type 0} (pages : List (List (LspId × T))) (k : ℕ) → (suc k < length pages → 33 ≤ length (get_or pages k []) + length (get_or pages (suc k) [])) → ((j : ℕ) → suc j ≡ k → 33 ≤ length (get_or pages j []) + length (get_or pages k [])) → AreNearlyDense pages k → AreDense pages
dense-alone [] k next before d = tt
dense-alone (p ∷ []) k next before d = tt
dense-alone (p ∷ q ∷ ps) zero next before d = (next (omega arith), d.1)
dense-alone (p ∷ q ∷ ps) (suc zero) next before d = (before 0 refl, dense-alone (q ∷ ps) zero (λ l. next (omega (arith, l))) (λ j e. absurd (omega (arith, e))) d.1)
dense-alone (p ∷ q ∷ ps) (suc (suc k)) next before d = (d.0, dense-alone (q ∷ ps) (suc k) (λ l. next (omega (arith, l))) (λ j e. before (suc j) (ap suc e)) d.1)

-- as a test of two neighbours in lent pages says it
pub thick : {T : Type 0} (lent pages : List (List (LspId × T))) (k : ℕ) → lent ≡ pages → (k + 1 < length lent → 33 ≤ length (get_or lent k []) + length (get_or lent (k + 1) [])) → suc k < length pages → 33 ≤ length (get_or pages k []) + length (get_or pages (suc k) [])
thick {T} lent pages k e h lt =
    let more : k + 1 ≡ suc k = omega arith in
    subst (λ (m : ℕ). 33 ≤ length (get_or pages k []) + length (get_or pages m [])) more
    (subst (λ (ps : List (List (LspId × T))). k + 1 < length ps → 33 ≤ length (get_or ps k []) + length (get_or ps (k + 1) [])) e h (omega (arith, lt)))

pub dense-back : {T : Type 0} (pages : List (List (LspId × T))) (k : ℕ) → 0 < k → k < length pages → (suc k < length pages → 33 ≤ length (get_or pages k []) + length (get_or pages (suc k) [])) → AreNearlyDense pages k → AreDense (joined pages (k - 1))
dense-back pages zero some lt next d = absurd (omega (arith, some))
dense-back pages (suc k) some lt next d = subst (λ (m : ℕ). AreDense (joined pages m)) {x = k} (omega arith) (dense-before pages k lt next d)

pub dense-both : {T : Type 0} (lent pages : List (List (LspId × T))) (k : ℕ) → lent ≡ pages → 0 < k → k < length pages → (suc k < length pages → 33 ≤ length (get_or pages k []) + length (get_or pages (suc k) [])) → (k - 1 + 1 < length lent → 33 ≤ length (get_or lent (k - 1) []) + length (get_or lent (k - 1 + 1) [])) → AreNearlyDense pages k → AreDense pages
dense-both {T} lent pages k e some lt next before d =
    let at = thick lent pages (k - 1) e before (omega (arith, lt, some)) in
    let same : suc (k - 1) ≡ k = omega (arith, some) in
    let low = subst (λ (m : ℕ). 33 ≤ length (get_or pages (k - 1) []) + length (get_or pages m [])) same at in
    dense-alone pages k next (λ j h. subst (λ (m : ℕ). 33 ≤ length (get_or pages m []) + length (get_or pages k [])) {x = k - 1} (omega (arith, h)) low) d

-- values that change
pub dense-change : {T : Type 0} (f : T → T) (pages : List (List (LspId × T))) → AreDense pages → AreDense (change_pages f pages)
dense-change f [] d = tt
dense-change f (p ∷ []) d = tt
dense-change f (p ∷ q ∷ ps) d =
    let a = d.0 in
    let one = length-change_all f p in
    let two = length-change_all f q in
    (omega (arith, a, one, two), dense-change f (q ∷ ps) d.1)
