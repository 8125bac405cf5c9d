-- Rows put in, taken out and added to, seen as pairs of a number and candidates.
use Rattle.std.proofs.Common.{◌≡◌, ◌∙◌, ℕ, zero, suc, ◌+◌, ◌≤◌, ◌==◌, Bool, true, false, List, [], ◌∷◌, ◌++◌, length, get_or, set, map, Option, Some, None, is_some, Vec, refl, sym, ap, subst, arith, if◌then◌else◌, vec_capacity}
use Rattle.std.specs.Prelude.{IfSome, MatchOption}
use Rattle.std.specs.Option.{option_map}
use Rattle.std.specs.declared.alloc.Global.{Global}
use Rattle.std.proofs.lemmas.Bool.{eq-eqb, ne_eqb}
use Rattle.std.proofs.lemmas.Bool.Decides.{nat_tests}
use Rattle.isis_base.specs.Prefixes.{prefix_number}
use Rattle.model_router.specs.Maps.{find, put, erase}
use Rattle.model_router.specs.Sorted.{RisesFrom}
use Rattle.ordered.specs.Keyed.{AllAbove, IsGap, IsPlace, keyed}
use Rattle.ordered.proofs.MapLemmas.{length-keyed, length-put}
use Rattle.route_table.specs.declared.candidate.Candidate.{Candidate}
use Rattle.router_routes.specs.Ways.{HaveRoom, RowsOf, WaysOf, add_at, add_if, row_key, row_ways, rows_of}

abbrev Row : Type 0
Row = ℕ × Vec Candidate Global

abbrev Ways : Type 0
Ways = List Candidate

-- ---- pairs of rows

abbrev lift : ℕ × Row → ℕ × Ways
lift p = (p.0, row_ways p.1)

pub pairs-of : (rows : List Row) → rows_of rows ≡ map lift (keyed row_key rows)
pairs-of [] = refl
pairs-of (row ∷ rows) = ap (λ (l : List (ℕ × Ways)). (row_key row, row_ways row) ∷ l) (pairs-of rows)

erase-step : (p : ℕ × Row) (m : List (ℕ × Row)) (n : ℕ) → map lift (erase m n) ≡ erase (map lift m) n → (t : Bool) → (p.0 == n) ≡ t → map lift (erase (p ∷ m) n) ≡ erase (map lift (p ∷ m)) n
unfolding erase
erase-step p m n rest true is = rw is rest
erase-step p m n rest false is = rw is (ap (λ (l : List (ℕ × Ways)). lift p ∷ l) rest)

pub erase-lift : (m : List (ℕ × Row)) (n : ℕ) → map lift (erase m n) ≡ erase (map lift m) n
unfolding erase
erase-lift [] n = refl
erase-lift (p ∷ m) n = erase-step p m n (erase-lift m n) (p.0 == n) refl

pub put-lift : (m : List (ℕ × Row)) (n : ℕ) (row : Row) → map lift (put m n row) ≡ put (map lift m) n (row_ways row)
unfolding put
put-lift [] n row = refl
put-lift (p ∷ m) n row = grind (arith, nat_tests, put-lift m n row)

pub erased : (new old : List Row) (n : ℕ) → keyed row_key new ≡ erase (keyed row_key old) n → rows_of new ≡ erase (rows_of old) n
erased new old n e = pairs-of new ∙ ap (map lift) e ∙ erase-lift (keyed row_key old) n ∙ ap (λ (m : List (ℕ × Ways)). erase m n) (sym (pairs-of old))

pub placed : (new old : List Row) (n : ℕ) (row : Row) → keyed row_key new ≡ put (keyed row_key old) n row → rows_of new ≡ put (rows_of old) n (row_ways row)
placed new old n row e = pairs-of new ∙ ap (map lift) e ∙ put-lift (keyed row_key old) n row ∙ ap (λ (m : List (ℕ × Ways)). put m n (row_ways row)) (sym (pairs-of old))

-- ---- how many

one-more : (t : Bool) (k m : ℕ) → m ≡ (if t then k else k + 1) → m ≤ k + 1
one-more true k m e = omega (arith, e)
one-more false k m e = omega (arith, e)

pub put-length : (rows : List Row) (n : ℕ) (row : Row) → RisesFrom 0 (keyed row_key rows) → length (put (keyed row_key rows) n row) ≤ length rows + 1
put-length rows n row rises =
    subst (λ (k : ℕ). length (put (keyed row_key rows) n row) ≤ k + 1) (length-keyed row_key rows)
    (one-more (is_some (find (keyed row_key rows) n)) (length (keyed row_key rows)) (length (put (keyed row_key rows) n row)) (length-put (keyed row_key rows) 0 n row rises))

pub put-room : (rows : List Row) (n : ℕ) (row : Row) (space : ℕ) → RisesFrom 0 (keyed row_key rows) → length rows + 1 ≤ space → length (put (keyed row_key rows) n row) ≤ space
put-room rows n row space rises room = let few = put-length rows n row rises in omega (arith, few, room)

pub placed-length : (new old : List Row) (n : ℕ) (row : Row) → RisesFrom 0 (keyed row_key old) → keyed row_key new ≡ put (keyed row_key old) n row → length new ≤ length old + 1
placed-length new old n row rises e =
    subst (λ (k : ℕ). k ≤ length old + 1) (sym (ap (λ (m : List (ℕ × Row)). length m) e) ∙ length-keyed row_key new) (put-length old n row rises)

-- ---- a candidate added to a row

other-if : (way : Candidate) (k : ℕ) (ways : Ways) → (k == prefix_number way.prefix) ≡ false → (k, ways) ≡ add_if way (k, ways)
other-if way k ways is = rw is refl

here-if : (way : Candidate) (k : ℕ) (ways : Ways) → (k == prefix_number way.prefix) ≡ true → (k, ways ++ way ∷ []) ≡ add_if way (k, ways)
here-if way k ways is = rw is refl

above-same : (rows : List Row) (way : Candidate) → AllAbove row_key (prefix_number way.prefix) rows → rows_of rows ≡ add_at (rows_of rows) way
above-same [] way above = refl
above-same (row ∷ rows) way above =
    let h = above.0 in
    ap (λ (p : ℕ × Ways). p ∷ rows_of rows) (other-if way (row_key row) (row_ways row) (ne_eqb (row_key row) (prefix_number way.prefix) (λ e. absurd (omega (arith, h, e)))))
    ∙ ap (λ (l : List (ℕ × Ways)). add_if way (row_key row, row_ways row) ∷ l) (above-same rows way above.1)

pub gap-same : (rows : List Row) (way : Candidate) (i : ℕ) → IsGap row_key rows (prefix_number way.prefix) i → rows_of rows ≡ add_at (rows_of rows) way
gap-same [] way i gap = refl
gap-same (row ∷ rows) way zero gap = above-same (row ∷ rows) way gap.high
gap-same (row ∷ rows) way (suc i) gap =
    let h = gap.low.0 in
    let rest : IsGap row_key rows (prefix_number way.prefix) i = record { inside = (let k = gap.inside in omega (arith, k)); low = gap.low.1; high = gap.high } in
    ap (λ (p : ℕ × Ways). p ∷ rows_of rows) (other-if way (row_key row) (row_ways row) (ne_eqb (row_key row) (prefix_number way.prefix) (λ e. absurd (omega (arith, h, e)))))
    ∙ ap (λ (l : List (ℕ × Ways)). add_if way (row_key row, row_ways row) ∷ l) (gap-same rows way i rest)

pub place-added : (rows : List Row) (way : Candidate) (i : ℕ) (new d : Row) → IsPlace row_key rows (prefix_number way.prefix) i → row_key new ≡ row_key (get_or rows i d) → row_ways new ≡ row_ways (get_or rows i d) ++ way ∷ [] → rows_of (set rows i new) ≡ add_at (rows_of rows) way
place-added [] way i new d at key ways = absurd (let h = at.inside in omega (arith, h))
place-added (row ∷ rows) way zero new d at key ways =
    let h = at.here row in
    ap (λ (k : ℕ). (k, row_ways new) ∷ rows_of rows) key
    ∙ ap (λ (w : Ways). (row_key row, w) ∷ rows_of rows) ways
    ∙ ap (λ (p : ℕ × Ways). p ∷ rows_of rows) (here-if way (row_key row) (row_ways row) (eq-eqb (row_key row) (prefix_number way.prefix) h))
    ∙ ap (λ (l : List (ℕ × Ways)). add_if way (row_key row, row_ways row) ∷ l) (above-same rows way at.high)
place-added (row ∷ rows) way (suc i) new d at key ways =
    let h = at.low.0 in
    let rest : IsPlace row_key rows (prefix_number way.prefix) i = record { inside = (let k = at.inside in omega (arith, k)); low = at.low.1; here = at.here; high = at.high } in
    ap (λ (l : List (ℕ × Ways)). (row_key row, row_ways row) ∷ l) (place-added rows way i new d rest key ways)
    ∙ ap (λ (p : ℕ × Ways). p ∷ add_at (rows_of rows) way) (other-if way (row_key row) (row_ways row) (ne_eqb (row_key row) (prefix_number way.prefix) (λ e. absurd (omega (arith, h, e)))))

-- ---- one row more behind others

pub pairs-push : (rows : List Row) (row : Row) → rows_of (rows ++ row ∷ []) ≡ rows_of rows ++ (row_key row, row_ways row) ∷ []
pairs-push [] row = refl
pairs-push (x ∷ rows) row = ap (λ (l : List (ℕ × Ways)). (row_key x, row_ways x) ∷ l) (pairs-push rows row)

pub push-length : (rows : List Row) (row : Row) → length (rows ++ row ∷ []) ≡ length rows + 1
push-length [] row = refl
push-length (x ∷ rows) row = let e = push-length rows row in omega (arith, e)

-- ---- room for rows that come

pub rows-length : (rows : List Row) → length (rows_of rows) ≡ length rows
rows-length [] = refl
rows-length (row ∷ rows) = let e = rows-length rows in omega (arith, e)

-- as tables and rows that come are seen
abbrev seen-table : List Row → ℕ → WaysOf
seen-table rows room = record { rows = rows_of rows; room = room }

abbrev seen-after : List Row → Option (Vec Row Global) → RowsOf
seen-after rows room = record { rows = rows_of rows; room = option_map (λ (r : Vec Row Global). vec_capacity r) room }

seen-room : (old more : List Row) (cap : ℕ) (room : Option (Vec Row Global)) (table : WaysOf) (after : RowsOf) → seen-table old cap ≡ table → seen-after more room ≡ after → HaveRoom table after → HaveRoom (seen-table old cap) (seen-after more room)
seen-room old more cap room table after e1 e2 fits = subst (HaveRoom (seen-table old cap)) (sym e2) (subst (λ (t : WaysOf). HaveRoom t after) (sym e1) fits)

room-cases : (old more : List Row) (cap : ℕ) (room : Option (Vec Row Global)) → HaveRoom (seen-table old cap) (seen-after more room) → IfSome room (λ later. length old ≤ vec_capacity later)
room-cases old more cap None fits = tt
room-cases old more cap (Some later) fits = let e = rows-length old in omega (arith, e, fits)

then-cases : (old more : List Row) (cap new : ℕ) (room : Option (Vec Row Global)) → HaveRoom (seen-table old cap) (seen-after more room) → MatchOption room (new ≡ cap) (λ later. vec_capacity later ≤ new) → length old + length more ≤ new
then-cases old more cap new None fits is = let e = rows-length old in let f = rows-length more in omega (arith, e, f, fits, is)
then-cases old more cap new (Some later) fits is = let e = rows-length old in let f = rows-length more in omega (arith, e, f, fits, is)

-- what is there has room where room was taken
pub room-before : (old more : List Row) (cap : ℕ) (room : Option (Vec Row Global)) (table : WaysOf) (after : RowsOf) → seen-table old cap ≡ table → seen-after more room ≡ after → HaveRoom table after → IfSome room (λ later. length old ≤ vec_capacity later)
room-before old more cap room table after e1 e2 fits = room-cases old more cap room (seen-room old more cap room table after e1 e2 fits)

-- and all of it has room then
pub room-then : (old more now : List Row) (cap new : ℕ) (room : Option (Vec Row Global)) (table : WaysOf) (after : RowsOf) → now ≡ old → seen-table old cap ≡ table → seen-after more room ≡ after → HaveRoom table after → MatchOption room (new ≡ cap) (λ later. vec_capacity later ≤ new) → length now + length more ≤ new
room-then old more now cap new room table after same e1 e2 fits is = subst (λ (xs : List Row). length xs + length more ≤ new) (sym same) (then-cases old more cap new room (seen-room old more cap room table after e1 e2 fits) is)
