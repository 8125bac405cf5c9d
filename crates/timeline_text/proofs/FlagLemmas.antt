-- SRM flags, counted row by row, circuit by circuit and router by router; and who runs a level.
use Rattle.std.proofs.Common.{◌≡◌, ℕ, zero, suc, ◌+◌, ◌<◌, ◌≤◌, Bool, true, false, ◌||◌, List, [], ◌∷◌, length, get_or, take, drop, Option, Some, IfSome, if◌then◌else◌, refl, sym, ap, ◌∙◌, subst, arith}
use Rattle.std.specs.List.{list_any, sum_by}
use Rattle.std.proofs.lemmas.List.Sums.{sum_by_more}
use Rattle.isis_base.specs.declared.identifiers.LspId.{LspId}
use Rattle.isis_base.specs.declared.level.Level.{Level}
use Rattle.lsp_store.specs.declared.entry.Entry.{Entry}
use Rattle.model_router.specs.Both.{at}
use Rattle.model_router.specs.Books.{Book}
use Rattle.model_router.specs.Cells.{Cell}
use Rattle.model_router.specs.Places.{nth}
use Rattle.model_router.specs.Routers.{Router, book_of}
use Rattle.model_router.specs.Sets.{has}
use Rattle.model_network.specs.Counts.{count_where, flags}
use Rattle.model_network.specs.RunLines.{circuit_count}
use Rattle.flag_sync.specs.declared.flag_row.FlagRow.{FlagRow}
use Rattle.flag_sync.specs.BookStates.{AreBeside, cells_of}
use Rattle.network_lab.specs.LinkStates.{runs_of, runs_at}
use Rattle.timeline_text.specs.Agreements.{flags_on, router_flags}

-- ---- rows

-- how many rows have the flag of the circuit at a place
abbrev pub count_rows : ℕ → List (LspId × FlagRow) → ℕ
count_rows place [] = 0
count_rows place (row ∷ rows) = (if has row.1.srm place then 1 else 0) + count_rows place rows

pub rows-are : (place : ℕ) (es : List (LspId × Entry)) (rs : List (LspId × FlagRow)) → AreBeside es rs → count_rows place rs ≡ count_where (λ (id : ℕ) (cell : Cell). has cell.srm place) (cells_of es rs)
rows-are place [] [] h = refl
rows-are place [] (r ∷ rs) h = absurd h
rows-are place (e ∷ es) [] h = absurd h
rows-are place (e ∷ es) (r ∷ rs) h =
    let one : ℕ = if has r.1.srm place then 1 else 0 in
    ap (λ (n : ℕ). one + n) (rows-are place es rs h.1)

pub as-many : (es : List (LspId × Entry)) (rs : List (LspId × FlagRow)) → AreBeside es rs → length rs ≡ length es
as-many [] [] h = refl
as-many [] (r ∷ rs) h = absurd h
as-many (e ∷ es) [] h = absurd h
as-many (e ∷ es) (r ∷ rs) h = let same = as-many es rs h.1 in omega (arith, same)

-- ---- circuits

next : (n : ℕ) → n + 1 ≡ suc n
next n = omega arith

pub on-more : (r : Router) (level : Level) (place : ℕ) → flags_on r level (place + 1) ≡ flags_on r level place + flags r place level
on-more r level place = ap (λ (n : ℕ). flags_on r level n) (next place)

pub with-circuit : (r : Router) (level : Level) (place before one : ℕ) (book : Book) → book ≡ book_of r level → before ≡ flags_on r level place → one ≡ count_where (λ (id : ℕ) (cell : Cell). has cell.srm place) book.cells
    → before + one ≡ flags_on r level (place + 1)
with-circuit r level place before one book e b o =
    let f = on-more r level place in
    let g : one ≡ flags r place level = o ∙ ap (λ (k : Book). count_where (λ (id : ℕ) (cell : Cell). has cell.srm place) k.cells) e in
    omega (arith, b, f, g)

-- ---- routers

pub of-router : (o : Option Router) (r : Router) (level : Level) (many : ℕ) → o ≡ Some r → many ≡ router_flags level r → IfSome o (λ (x : Router). many ≡ router_flags level x)
of-router o r level many e h = subst (λ (p : Option Router). IfSome p (λ (x : Router). many ≡ router_flags level x)) (sym e) h

pub run-flags : (r : Router) (level : Level) (many circuits : ℕ) → at r.config.runs level ≡ true → circuits ≡ length r.circuits → many ≡ flags_on r level circuits → many ≡ router_flags level r
run-flags r level many circuits runs e h =
    h ∙ ap (λ (n : ℕ). flags_on r level n) e ∙ ap (λ (b : Bool). let n : ℕ = if b then flags_on r level (length r.circuits) else 0 in n) (sym runs)

pub no-flags : (r : Router) (level : Level) (many : ℕ) → at r.config.runs level ≡ false → many ≡ 0 → many ≡ router_flags level r
no-flags r level many runs h =
    h ∙ ap (λ (b : Bool). let n : ℕ = if b then flags_on r level (length r.circuits) else 0 in n) (sym runs)

pub circuits-of : (o : Option Router) (r : Router) (circuits : ℕ) → circuits ≡ circuit_count o → o ≡ Some r → circuits ≡ length r.circuits
circuits-of o r circuits e s = e ∙ ap circuit_count s

-- what is so of the router at a place is so of the one that is found there
pub got : (P : Router → Type 0) (rs : List Router) (i : ℕ) (d : Router) → i < length rs → IfSome (nth rs i) P → P (get_or rs i d)
got P [] i d h s = absurd (omega (arith, h))
got P (r ∷ rs) zero d h s = s
got P (r ∷ rs) (suc i) d h s = got P rs i d (omega (arith, h)) s

first-of : (rs : List Router) (i : ℕ) → i < length rs → Router
first-of [] i h = absurd (omega (arith, h))
first-of (r ∷ rs) i h = r

pub with-router : (level : Level) (rs : List Router) (i before one : ℕ) → i < length rs → before ≡ sum_by (router_flags level) (take i rs) → IfSome (nth rs i) (λ (r : Router). one ≡ router_flags level r)
    → before + one ≡ sum_by (router_flags level) (take (i + 1) rs)
with-router level rs i before one h b o =
    let d : Router = first-of rs i h in
    let f = sum_by_more (router_flags level) rs i d h in
    let g : one ≡ router_flags level (get_or rs i d) = got (λ (r : Router). one ≡ router_flags level r) rs i d h o in
    omega (arith, b, f, g)

-- ---- who runs a level

abbrev pub any_runs : List Router → Level → Bool
any_runs rs level = list_any (λ (runs : Bool). runs) (runs_of rs level)

pub any-step : (rs : List Router) (level : Level) (i : ℕ) → i < length rs → any_runs (drop i rs) level ≡ (runs_at rs i level || any_runs (drop (i + 1) rs) level)
any-step [] level i h = absurd (omega (arith, h))
any-step (r ∷ rs) level zero h = refl
any-step (r ∷ rs) level (suc i) h =
    any-step rs level i (omega (arith, h))
    ∙ ap (λ (n : ℕ). runs_at rs i level || any_runs (drop n (r ∷ rs)) level) (shift i)
  where
    shift : (n : ℕ) → suc (n + 1) ≡ suc n + 1
    shift n = omega arith

pub any-end : (rs : List Router) (level : Level) (i : ℕ) → length rs ≤ i → any_runs (drop i rs) level ≡ false
any-end [] level zero h = refl
any-end [] level (suc i) h = refl
any-end (r ∷ rs) level zero h = absurd (omega (arith, h))
any-end (r ∷ rs) level (suc i) h = any-end rs level i (omega (arith, h))
