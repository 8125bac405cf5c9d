-- Cells of a book: their number, and which LSP IDs they have.
use Rattle.std.proofs.Common.{◌≡◌, ℕ, ◌+◌, ◌-◌, ◌<◌, ◌≤◌, ◌==◌, ◌&&◌, ◌||◌, nat_lt, Bool, true, false, not, IfSome, List, [], ◌∷◌, length, take, drop, get_or, Some, if◌then◌else◌, refl, sym, ap, ap₂, ◌∙◌, subst, arith, zero-le}
use Rattle.std.proofs.lemmas.Bool.{eqb-true}
use Rattle.std.proofs.lemmas.Bool.Decides.{nat_tests}
use Rattle.std.proofs.lemmas.List.{take_all}
use Rattle.isis_base.specs.declared.identifiers.LspId.{LspId}
use Rattle.isis_base.specs.Identifiers.{lsp_number}
use Rattle.model_router.specs.Maps.{find}
use Rattle.model_router.specs.Cells.{Cell}
use Rattle.model_router.specs.Sorted.{RisesFrom}
use Rattle.model_router.specs.Books.{Book, rank_of}
use Rattle.model_router.specs.LetGos.{LetGo, contains, lets_go}
use Rattle.lsp_store.specs.declared.entry.Entry.{Entry}
use Rattle.flag_sync.specs.declared.flag_row.FlagRow.{FlagRow}
use Rattle.flag_sync.specs.BookStates.{cells_of}
use Rattle.flag_sync.specs.Walks.{numbers_of}
use Rattle.purge_ageing.proofs.IdLemmas.{length-numbers}
use Rattle.lab_facts.specs.Excepted.{ids_of, count_beyond, excepted_of}

pub cells_none : (es : List (LspId × Entry)) (rs : List (LspId × FlagRow)) → rs ≡ [] → cells_of es rs ≡ []
cells_none [] rs e = refl
cells_none (x ∷ es) rs e = ap (cells_of (x ∷ es)) e

pub cells_few : (es : List (LspId × Entry)) (rs : List (LspId × FlagRow)) → length (cells_of es rs) ≤ length es
cells_few [] rs = zero-le
cells_few (x ∷ es) [] = zero-le
cells_few (x ∷ es) (r ∷ rs) = let h = cells_few es rs in omega (arith, h)

-- ---- the LSP IDs that are held

one-not : (t : Bool) → ◌≡◌ {A = ℕ} (if not t then 1 else 0) (if t then 0 else 1)
one-not true = refl
one-not false = refl

count-with : (t : Bool) (n : ℕ) (ids : List ℕ) → (if t then 1 else 0) + length ids ≡ length (if t then n ∷ ids else ids)
count-with true n ids = omega arith
count-with false n ids = omega arith

pub held_turn : (cell : ℕ × Cell) (cells : List (ℕ × Cell)) (one : ℕ) → one ≡ (if nat_lt 0 cell.1.rank then 1 else 0) → one + length (ids_of cells) ≡ length (ids_of (cell ∷ cells))
held_turn cell cells one e =
    let h = count-with (nat_lt 0 cell.1.rank) cell.0 (ids_of cells) in
    omega (arith, e, h)

beyond-with : (t : Bool) (others : List ℕ) (n : ℕ) (ids : List ℕ) → (if t && not (contains others n) then 1 else 0) + count_beyond others ids ≡ count_beyond others (if t then n ∷ ids else ids)
beyond-with false others n ids = omega arith
beyond-with true others n ids =
    let h = one-not (contains others n) in
    omega (arith, h)

pub beyond_turn : (others : List ℕ) (cell : ℕ × Cell) (cells : List (ℕ × Cell)) (one : ℕ) → one ≡ (if nat_lt 0 cell.1.rank && not (contains others cell.0) then 1 else 0) → one + count_beyond others (ids_of cells) ≡ count_beyond others (ids_of (cell ∷ cells))
beyond_turn others cell cells one e =
    let h = beyond-with (nat_lt 0 cell.1.rank) others cell.0 (ids_of cells) in
    omega (arith, e, h)

same-eq : (n : ℕ) → (n == n) ≡ true
same-eq n = grind (arith, nat_tests)

below-not : (a b : ℕ) → b < a → (a == b) ≡ false
below-not a b h = grind (arith, nat_tests, h)

absent-with : (t : Bool) (n id : ℕ) (ids : List ℕ) → id < n → contains ids id ≡ false → contains (if t then n ∷ ids else ids) id ≡ false
absent-with true n id ids h e = ap (λ (b : Bool). b || contains ids id) (below-not n id h) ∙ e
absent-with false n id ids h e = e

absent : (least : ℕ) (cells : List (ℕ × Cell)) (id : ℕ) → RisesFrom least cells → id < least → contains (ids_of cells) id ≡ false
absent least [] id r h = refl
absent least (x ∷ cells) id r h =
    absent-with (nat_lt 0 x.1.rank) x.0 id (ids_of cells) (let le = r.0 in omega (arith, le, h))
    (absent (x.0 + 1) cells id r.1 (let le = r.0 in omega (arith, le, h)))

-- the first of a list's cells is asked for, or another
first-held : (t : Bool) (n : ℕ) (ids : List ℕ) → contains ids n ≡ false → t ≡ contains (if t then n ∷ ids else ids) n
first-held true n ids e = sym (ap (λ (b : Bool). b || contains ids n) (same-eq n))
first-held false n ids e = sym e

other-held : (t : Bool) (n id : ℕ) (ids : List ℕ) → (n == id) ≡ false → contains ids id ≡ contains (if t then n ∷ ids else ids) id
other-held true n id ids e = sym (ap (λ (b : Bool). b || contains ids id) e)
other-held false n id ids e = refl

pub held_is : (least : ℕ) (cells : List (ℕ × Cell)) (id : ℕ) → RisesFrom least cells → nat_lt 0 (rank_of (find cells id)) ≡ contains (ids_of cells) id
held_is least [] id r = refl
held_is least (x ∷ cells) id r = either (x.0 == id) refl (held_is (x.0 + 1) cells id r.1)
  where
    either : (t : Bool) → (x.0 == id) ≡ t → nat_lt 0 (rank_of (find cells id)) ≡ contains (ids_of cells) id → nat_lt 0 (rank_of (if t then Some x.1 else find cells id)) ≡ contains (ids_of (x ∷ cells)) id
    either true e h =
        subst (λ (n : ℕ). nat_lt 0 x.1.rank ≡ contains (if nat_lt 0 x.1.rank then x.0 ∷ ids_of cells else ids_of cells) n) (eqb-true x.0 id e)
        (first-held (nat_lt 0 x.1.rank) x.0 (ids_of cells) (absent (x.0 + 1) cells x.0 r.1 (omega arith)))
    either false e h = h ∙ other-held (nat_lt 0 x.1.rank) x.0 id (ids_of cells) e

pub gone_is : (let_go : LetGo) (listed : List ℕ) (id : ℕ) → let_go ≡ Some listed → lets_go let_go id ≡ contains listed id
unfolding lets_go
gone_is let_go listed id e = ap (λ (g : LetGo). lets_go g id) e

-- ---- a list walked from its first item

first_left : (xs : List LspId) (d : LspId) → 1 ≤ length xs → xs ≡ get_or xs 0 d ∷ take (length xs - 1) (drop 1 xs)
first_left [] d h = absurd (omega (arith, h))
first_left (x ∷ xs) d h = ap (λ (ys : List LspId). x ∷ ys) (sym (take_all (length (x ∷ xs) - 1) xs (omega arith)))

pub beyond_first : (listed : List ℕ) (ids : List LspId) (count one : ℕ) (has : Bool) (d : LspId) → 1 ≤ length ids → has ≡ contains listed (lsp_number (get_or ids 0 d)) → one ≡ (if not has then 1 else 0) → count + one + count_beyond listed (numbers_of (take (length ids - 1) (drop 1 ids))) ≡ count + count_beyond listed (numbers_of ids)
beyond_first listed ids count one has d h e f =
    let whole = ap (λ (xs : List LspId). count_beyond listed (numbers_of xs)) (first_left ids d h) in
    let o = f ∙ (one-not has ∙ ap (λ (t : Bool). let n : ℕ = if t then 0 else 1 in n) e) in
    omega (arith, whole, o)

-- ---- what is listed

pub few_ids : (let_go : LetGo) (ids : List LspId) → IfSome let_go (λ ns. length ns ≤ 4096) → let_go ≡ Some (numbers_of ids) → length ids ≤ 4096
few_ids let_go ids h e =
    let few = subst (λ (g : LetGo). IfSome g (λ ns. length ns ≤ 4096)) e h in
    omega (arith, length-numbers ids, few)

pub both_listed : (let_go other : LetGo) (ids others : List LspId) (a b : Book) (count : ℕ) → let_go ≡ Some (numbers_of ids) → other ≡ Some (numbers_of others) → count ≡ count_beyond (numbers_of ids) (numbers_of others) → length ids + count ≡ excepted_of let_go other a b
both_listed let_go other ids others a b count e f k =
    let is = ap₂ (λ (g h : LetGo). excepted_of g h a b) e f in
    omega (arith, is, k, length-numbers ids)
