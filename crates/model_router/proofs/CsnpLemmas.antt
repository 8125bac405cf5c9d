-- A CSNP set covers all LSP IDs once, in order.
use Rattle.std.proofs.Common.{◌≡◌, ℕ, zero, suc, ◌+◌, ◌-◌, ◌^◌, ◌<◌, ◌≤◌, nat_le, Bool, List, [], ◌∷◌, ◌++◌, length, take, drop, refl, sym, subst, arith, le_refl, le_trans, zero-le, take-append-drop, length-drop}
use Rattle.std.proofs.lemmas.Bool.Decides.{nat_tests}
use Rattle.std.specs.List.{AllByRecursion}
use Rattle.isis_base.specs.declared.level.Level.{Level}
use Rattle.model_router.specs.Cells.{Cell}
use Rattle.model_router.specs.Books.{Book}
use Rattle.model_router.specs.SnpTable.{SnpEntry}
use Rattle.model_router.specs.Datagrams.{Sent, Csnp}
use Rattle.model_router.specs.SnpLists.{snp_entry, entries_where, pieces, csnps, csnp_set, last_id, held_keys}
use Rattle.model_router.specs.Sorted.{RisesFrom}
use Rattle.model_router.specs.CsnpLaws.{IsWithin, HasShortIds}
use Rattle.model_router.specs.CsnpLaws.{CoversFrom}
use Rattle.model_router.proofs.BookLemmas.{choose}

-- entries by LSP ID, from a least one on, below 2 ^ 64
unfoldable pub Rises : ℕ → List SnpEntry → Type 0
Rises least [] = Unit {0}
Rises least (h ∷ entries) = (least ≤ h.id) × (h.id < 2 ^ 64) × Rises (h.id + 1) entries

rises-weaken : (entries : List SnpEntry) (least less : ℕ) → less ≤ least → Rises least entries → Rises less entries
unfolding Rises
rises-weaken [] least less h r = tt
rises-weaken (e ∷ entries) least less h r = (le_trans h r.0, r.1, r.2)

pub listed-rises : (t : Cell → Bool) (cells : List (ℕ × Cell)) (least : ℕ) → RisesFrom least cells → AllByRecursion (λ (p : ℕ × Cell). p.0 < 2 ^ 64) cells → Rises least (entries_where t cells)
unfolding Rises
listed-rises t [] least r short = tt
listed-rises t (p ∷ cells) least r short =
    let rest = listed-rises t cells (p.0 + 1) r.1 short.1 in
    choose (Rises least) (t p.1) (snp_entry p.0 p.1 ∷ entries_where t cells) (entries_where t cells)
    (λ _. (r.0, short.0, rest)) (λ _. rises-weaken (entries_where t cells) (p.0 + 1) least (let h = r.0 in omega arith) rest)

-- all lie in what is left of the range
last-within : (entries : List SnpEntry) (start least : ℕ) → start ≤ least → Rises least entries → AllByRecursion (IsWithin start (2 ^ 64 - 1)) entries
unfolding Rises
last-within [] start least h r = tt
last-within (e ∷ entries) start least h r = ((le_trans h r.0, let k = r.1 in omega (arith, k)), last-within entries start (e.id + 1) (let k = r.0 in omega (arith, h, k)) r.2)

-- the first of entries, and those behind them
pub piece-within : (n : ℕ) (entries : List SnpEntry) (start least : ℕ) → suc n ≤ length entries → start ≤ least → Rises least entries
    → AllByRecursion (IsWithin start (last_id (take (suc n) entries))) (take (suc n) entries) × Rises (last_id (take (suc n) entries) + 1) (drop (suc n) entries) × (least ≤ last_id (take (suc n) entries))
unfolding Rises
piece-within n [] start least le h r = absurd (omega arith)
piece-within zero (e ∷ entries) start least le h r = (((le_trans h r.0, le_refl _), tt), r.2, r.0)
piece-within (suc n) (e ∷ []) start least le h r = absurd (omega arith)
piece-within (suc n) (e ∷ f ∷ entries) start least le h r =
    let more = piece-within n (f ∷ entries) start (e.id + 1) (omega arith) (let k = r.0 in omega (arith, h, k)) r.2 in
    (((le_trans h r.0, let k = more.2 in omega (arith, k)), more.0), more.1, let k = more.2 in let j = r.0 in omega (arith, k, j))

pub some-piece : (count : ℕ) (entries : List SnpEntry) → (p : List SnpEntry) × (ps : List (List SnpEntry)) × (pieces (suc count) entries ≡ p ∷ ps)
some-piece count entries = choose (λ (ps : List (List SnpEntry)). (p : List SnpEntry) × (more : List (List SnpEntry)) × (ps ≡ p ∷ more)) (nat_le (length entries) 75) (entries ∷ []) (take 75 entries ∷ pieces count (drop 75 entries))
    (λ _. (entries, [], refl)) (λ _. (take 75 entries, pieces count (drop 75 entries), refl))

-- a piece before what covers the rest
join-cover : (l : Level) (start end : ℕ) (piece more entries : List SnpEntry) (out : List Sent) → entries ≡ piece ++ more → AllByRecursion (IsWithin start end) piece → CoversFrom l (end + 1) out more → CoversFrom l start (Csnp l start end piece ∷ out) entries
join-cover l start end piece more entries [] e w c = absurd c
join-cover l start end piece more entries (next ∷ rest) e w c = (refl, refl, (more, e, w, c))

-- pieces cover all from their start on
pieces-cover : (l : Level) (count : ℕ) (entries : List SnpEntry) (start least : ℕ) → length entries ≤ count → start ≤ least → Rises least entries → CoversFrom l start (csnps l start (pieces (suc count) entries)) entries
pieces-cover l zero entries start least few h r =
    choose (λ (ps : List (List SnpEntry)). CoversFrom l start (csnps l start ps) entries) (nat_le (length entries) 75) (entries ∷ []) (take 75 entries ∷ pieces zero (drop 75 entries))
    (λ _. (refl, refl, refl, refl, last-within entries start least h r))
    (λ long. absurd (let many : 75 < length entries = grind (arith, nat_tests) in omega (arith, many, few)))
pieces-cover l (suc count) entries start least few h r =
    choose (λ (ps : List (List SnpEntry)). CoversFrom l start (csnps l start ps) entries) (nat_le (length entries) 75) (entries ∷ []) (take 75 entries ∷ pieces (suc count) (drop 75 entries))
    (λ _. (refl, refl, refl, refl, last-within entries start least h r))
    (λ long.
    let many : 75 < length entries = grind (arith, nat_tests) in
    let cut = piece-within 74 entries start least (omega (arith, many)) h r in
    let end = last_id (take 75 entries) in
    let left : length (drop 75 entries) ≤ count = omega (arith, length-drop 75 entries, many, few) in
    let rest = pieces-cover l count (drop 75 entries) (end + 1) (end + 1) left (le_refl _) cut.1 in
    let shape = some-piece count (drop 75 entries) in
    subst (λ (ps : List (List SnpEntry)). CoversFrom l start (csnps l start (take 75 entries ∷ ps)) entries) (sym shape.2)
    (join-cover l start end (take 75 entries) (drop 75 entries) entries (csnps l (end + 1) (shape.0 ∷ shape.1)) (sym (take-append-drop 75 entries)) cut.0
    (subst (λ (ps : List (List SnpEntry)). CoversFrom l (end + 1) (csnps l (end + 1) ps) (drop 75 entries)) shape.2 rest)))

pub listed-few : (t : Cell → Bool) (cells : List (ℕ × Cell)) → length (entries_where t cells) ≤ length cells
listed-few t [] = le_refl _
listed-few t (p ∷ cells) =
    let rest = listed-few t cells in
    choose (λ (es : List SnpEntry). length es ≤ suc (length cells)) (t p.1) (snp_entry p.0 p.1 ∷ entries_where t cells) (entries_where t cells) (λ _. omega (arith, rest)) (λ _. omega (arith, rest))

pub csnp_set-covers : (l : Level) (b : Book) → RisesFrom 0 b.cells → HasShortIds b → CoversFrom l 0 (csnp_set l b) (held_keys b)
csnp_set-covers l b r short = pieces-cover l (length b.cells) (held_keys b) 0 0 (listed-few _ b.cells) zero-le (listed-rises _ b.cells 0 r short)
