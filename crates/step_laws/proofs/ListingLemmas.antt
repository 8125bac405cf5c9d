-- The CSNPs of a reply list exactly the keys in their ranges, are a level's CSNP set, and cover all LSP IDs.
use Rattle.std.proofs.Common.{◌≡◌, ℕ, zero, suc, ◌+◌, ◌-◌, ◌^◌, ◌<◌, ◌≤◌, ◌==◌, nat_lt, nat_le, Bool, true, false, ◌&&◌, ◌⊎◌, inl, inr, List, [], ◌∷◌, ◌++◌}
use Rattle.std.proofs.Common.{filter, length, take, drop, Option, Some, None, if◌then◌else◌, refl, sym, ap, ap₂, ◌∙◌, subst, arith, le_refl, le_trans}
use Rattle.std.proofs.Common.{zero-le, append-nil, take-append-drop, length-drop}
use Rattle.std.proofs.lemmas.Bool.Decides.{nat_tests}
use Rattle.std.proofs.lemmas.List.Elements.{filter-append}
use Rattle.std.specs.List.{AllByRecursion}
use Rattle.isis_base.specs.declared.level.Level.{Level}
use Rattle.isis_base.specs.declared.level.Level.TheVariants as level
use Rattle.model_router.specs.declared.drop_name.DropName.{DropName}
use Rattle.model_router.specs.declared.lsp_case.LspCase.{LspCase}
use Rattle.model_router.specs.declared.lsp_case.LspCase.TheVariants as lsp
use Rattle.model_router.specs.Maps.{each}
use Rattle.model_router.specs.Both.{Both, at, is_level}
use Rattle.model_router.specs.Places.{nth}
use Rattle.model_router.specs.Sets.{has}
use Rattle.model_router.specs.Cells.{Cell, Heard, srm_sent, srm_off, ssn_off}
use Rattle.model_router.specs.Books.{Book}
use Rattle.model_router.specs.SnpTable.{SnpEntry}
use Rattle.model_router.specs.Routers.{Circuit, LevelState, Router, book_of, with_book, with_circuit}
use Rattle.model_router.specs.Givens.{Given}
use Rattle.model_router.specs.Datagrams.{Sent, PointHello, LanHello, Lsp, Csnp, Psnp}
use Rattle.model_router.specs.Pulls.{Sending, due_lsps, srm_due, sent_cell, sent, answered, lan_hello, hellos, at_circuit, pull_hello, pull_csnp, pull_lsps}
use Rattle.model_router.specs.Pulls.{pull_psnp, pull_level, pull, is_csnp_due}
use Rattle.model_router.specs.SnpLists.{snp_entry, entries_where, last_id, pieces, csnps, csnp_set, owed, psnps, held_keys}
use Rattle.model_router.specs.Events.{Done, Send, Reply, Dropped, Message, Refused, PointHelloHeard, LanHelloHeard, LspHeard, SnpHeard, Event, Second, Take}
use Rattle.model_router.specs.Events.{Pull, Metric, Overload, Prefix, settled}
use Rattle.model_router.specs.Receiving.{taken, acks, take_or_drop, drop_of}
use Rattle.model_router.specs.Receiving as receiving
use Rattle.model_router.specs.Steps.{sent_all, step}
use Rattle.model_router.specs.Sorted.{IsSorted}
use Rattle.model_router.specs.Good.{IsGoodRouter}
use Rattle.model_router.specs.CsnpLaws.{IsWithin, HasShortIds}
use Rattle.model_router.proofs.BookLemmas.{choose}
use Rattle.model_router.proofs.RisingLemmas.{all-found}
use Rattle.model_router.proofs.ListLemmas.{all-map}
use Rattle.model_router.proofs.CsnpLemmas.{Rises, listed-rises, listed-few, piece-within, some-piece}
use Rattle.model_router.proofs.KeyLemmas.{good-ids, at_circuit-tells}
use Rattle.step_laws.specs.Listings.{lies_within, ListsExactly, ReplyListsExactly, is_csnp_of, csnps_in, AreNoneOrSet, CoverIds, AreNoneOrCovering}

-- ---- what a filter keeps

all-kept : {X : Type 0} (p : X → Bool) (xs : List X) → AllByRecursion (λ x. p x ≡ true) xs → filter p xs ≡ xs
all-kept p [] all = refl
all-kept p (x ∷ xs) all = rw all.0 (ap (λ (l : List _). x ∷ l) (all-kept p xs all.1))

none-kept : {X : Type 0} (p : X → Bool) (xs : List X) → AllByRecursion (λ x. p x ≡ false) xs → filter p xs ≡ []
none-kept p [] all = refl
none-kept p (x ∷ xs) all = rw all.0 (none-kept p xs all.1)

-- ---- entries of a range

in-range : (first last id : ℕ) → first ≤ id → id ≤ last → (nat_le first id && nat_le id last) ≡ true
in-range first last id low high = grind (arith, nat_tests, low, high)

before-range : (first last id : ℕ) → id < first → (nat_le first id && nat_le id last) ≡ false
before-range first last id low = grind (arith, nat_tests, low)

past-range : (first last id : ℕ) → last < id → (nat_le first id && nat_le id last) ≡ false
past-range first last id high = grind (arith, nat_tests, high)

abbrev within : ℕ → ℕ → List SnpEntry → List SnpEntry
within first last entries = filter (lies_within first last) entries

all-in : (first last : ℕ) (entries : List SnpEntry) → AllByRecursion (IsWithin first last) entries → within first last entries ≡ entries
all-in first last entries w =
    all-kept (lies_within first last) entries
    (all-map (IsWithin first last) (λ (h : SnpEntry). lies_within first last h ≡ true) entries (λ h x. in-range first last h.id x.0 x.1) w)

none-before : (start end first last : ℕ) (entries : List SnpEntry) → end + 1 ≤ first → AllByRecursion (IsWithin start end) entries
    → within first last entries ≡ []
none-before start end first last entries low w =
    none-kept (lies_within first last) entries
    (all-map (IsWithin start end) (λ (h : SnpEntry). lies_within first last h ≡ false) entries
    (λ h x. before-range first last h.id (let k = x.1 in omega (arith, k, low))) w)

all-past : (first last least : ℕ) (entries : List SnpEntry) → last + 1 ≤ least → Rises least entries
    → AllByRecursion (λ (h : SnpEntry). lies_within first last h ≡ false) entries
unfolding Rises
all-past first last least [] low r = tt
all-past first last least (h ∷ entries) low r =
    let k = r.0 in (past-range first last h.id (omega (arith, k, low)), all-past first last (h.id + 1) entries (omega (arith, k, low)) r.2)

none-past : (first last least : ℕ) (entries : List SnpEntry) → last + 1 ≤ least → Rises least entries → within first last entries ≡ []
none-past first last least entries low r = none-kept (lies_within first last) entries (all-past first last least entries low r)

-- all lie in what is left of the LSP IDs
last-within : (entries : List SnpEntry) (start least : ℕ) → start ≤ least → Rises least entries → AllByRecursion (IsWithin start (2 ^ 64 - 1)) entries
unfolding Rises
last-within [] start least h r = tt
last-within (e ∷ entries) start least h r =
    ((le_trans h r.0, let k = r.1 in omega (arith, k)), last-within entries start (e.id + 1) (let k = r.0 in omega (arith, h, k)) r.2)

-- ---- each piece of a set is cut out of all entries by its range

record Cut (l : Level) (start : ℕ) (entries : List SnpEntry) (m : Level) (first last : ℕ) (piece : List SnpEntry) : Type 0 where
  level_is : m ≡ l
  low : start ≤ first
  is : piece ≡ within first last entries

abbrev IsCut : Level → ℕ → List SnpEntry → Sent → Type 0
IsCut l start entries (PointHello state extended names) = ⊥
IsCut l start entries (LanHello m lan snpas) = ⊥
IsCut l start entries (Lsp m id cell) = ⊥
IsCut l start entries (Csnp m first last piece) = Cut l start entries m first last piece
IsCut l start entries (Psnp m piece) = ⊥

cut-first : (l : Level) (start end : ℕ) (front back entries : List SnpEntry) → entries ≡ front ++ back → AllByRecursion (IsWithin start end) front
    → Rises (end + 1) back → Cut l start entries l start end front
cut-first l start end front back entries e w r = record {
  level_is = refl;
  low = le_refl _;
  is =
      sym (ap (within start end) e ∙ filter-append (lies_within start end) front back
      ∙ ap₂ (λ (x y : List SnpEntry). x ++ y) (all-in start end front w) (none-past start end (end + 1) back (le_refl _) r) ∙ append-nil front);
}

cut-later : (l : Level) (start end : ℕ) (front back entries : List SnpEntry) → entries ≡ front ++ back → AllByRecursion (IsWithin start end) front
    → start ≤ end → (s : Sent) → IsCut l (end + 1) back s → IsCut l start entries s
cut-later l start end front back entries e w h (PointHello state extended names) p = p
cut-later l start end front back entries e w h (LanHello m lan snpas) p = p
cut-later l start end front back entries e w h (Lsp m id cell) p = p
cut-later l start end front back entries e w h (Psnp m piece) p = p
cut-later l start end front back entries e w h (Csnp m first last piece) p = record {
  level_is = p.level_is;
  low = let k = p.low in omega (arith, h, k);
  is =
      p.is ∙ sym (ap (within first last) e ∙ filter-append (lies_within first last) front back
      ∙ ap (λ (x : List SnpEntry). x ++ within first last back) (none-before start end first last front p.low w));
}

cut-last : (l : Level) (entries : List SnpEntry) (start least : ℕ) → start ≤ least → Rises least entries → Cut l start entries l start (2 ^ 64 - 1) entries
cut-last l entries start least h r =
    record { level_is = refl; low = le_refl _; is = sym (all-in start (2 ^ 64 - 1) entries (last-within entries start least h r)) }

pieces-cut : (l : Level) (count : ℕ) (entries : List SnpEntry) (start least : ℕ) → length entries ≤ count → start ≤ least → Rises least entries
    → AllByRecursion (IsCut l start entries) (csnps l start (pieces (suc count) entries))
pieces-cut l zero entries start least few h r =
    choose (λ (ps : List (List SnpEntry)). AllByRecursion (IsCut l start entries) (csnps l start ps)) (nat_le (length entries) 75) (entries ∷ [])
    (take 75 entries ∷ pieces zero (drop 75 entries))
    (λ _. (cut-last l entries start least h r, tt))
    (λ long. absurd (let many : 75 < length entries = grind (arith, nat_tests) in omega (arith, many, few)))
pieces-cut l (suc count) entries start least few h r =
    choose (λ (ps : List (List SnpEntry)). AllByRecursion (IsCut l start entries) (csnps l start ps)) (nat_le (length entries) 75) (entries ∷ [])
    (take 75 entries ∷ pieces (suc count) (drop 75 entries))
    (λ _. (cut-last l entries start least h r, tt))
    (λ long.
    let many : 75 < length entries = grind (arith, nat_tests) in
    let cut = piece-within 74 entries start least (omega (arith, many)) h r in
    let end = last_id (take 75 entries) in
    let split : entries ≡ take 75 entries ++ drop 75 entries = sym (take-append-drop 75 entries) in
    let left : length (drop 75 entries) ≤ count = omega (arith, length-drop 75 entries, many, few) in
    let rest = pieces-cut l count (drop 75 entries) (end + 1) (end + 1) left (le_refl _) cut.1 in
    let shape = some-piece count (drop 75 entries) in
    let low : start ≤ end = let k = cut.2 in le_trans h k in
    subst (λ (ps : List (List SnpEntry)). AllByRecursion (IsCut l start entries) (csnps l start (take 75 entries ∷ ps))) (sym shape.2) (
      cut-first l start end (take 75 entries) (drop 75 entries) entries split cut.0 cut.1,
      all-map (IsCut l (end + 1) (drop 75 entries)) (IsCut l start entries) (csnps l (end + 1) (shape.0 ∷ shape.1))
          (cut-later l start end (take 75 entries) (drop 75 entries) entries split cut.0 low)
          (subst (λ (ps : List (List SnpEntry)). AllByRecursion (IsCut l (end + 1) (drop 75 entries)) (csnps l (end + 1) ps)) shape.2 rest),
    ))

-- ---- the ranges of a set cover all LSP IDs

some-below : (least : ℕ) (entries : List SnpEntry) → 0 < length entries → Rises least entries → least < 2 ^ 64
unfolding Rises
some-below least [] some r = absurd (omega (arith, some))
some-below least (h ∷ entries) some r = let k = r.0 in let j = r.1 in omega (arith, k, j)

pieces-ids : (l : Level) (count : ℕ) (entries : List SnpEntry) (start : ℕ) → length entries ≤ count → start < 2 ^ 64 → Rises start entries
    → CoverIds start (csnps l start (pieces (suc count) entries))
pieces-ids l zero entries start few low r =
    choose (λ (ps : List (List SnpEntry)). CoverIds start (csnps l start ps)) (nat_le (length entries) 75) (entries ∷ [])
    (take 75 entries ∷ pieces zero (drop 75 entries))
    (λ _. (refl, omega (arith, low), refl))
    (λ long. absurd (let many : 75 < length entries = grind (arith, nat_tests) in omega (arith, many, few)))
pieces-ids l (suc count) entries start few low r =
    choose (λ (ps : List (List SnpEntry)). CoverIds start (csnps l start ps)) (nat_le (length entries) 75) (entries ∷ [])
    (take 75 entries ∷ pieces (suc count) (drop 75 entries))
    (λ _. (refl, omega (arith, low), refl))
    (λ long.
    let many : 75 < length entries = grind (arith, nat_tests) in
    let cut = piece-within 74 entries start start (omega (arith, many)) (le_refl _) r in
    let end = last_id (take 75 entries) in
    let left : length (drop 75 entries) ≤ count = omega (arith, length-drop 75 entries, many, few) in
    let some : 0 < length (drop 75 entries) = omega (arith, length-drop 75 entries, many) in
    let rest = pieces-ids l count (drop 75 entries) (end + 1) left (some-below (end + 1) (drop 75 entries) some cut.1) cut.1 in
    let shape = some-piece count (drop 75 entries) in
    subst (λ (ps : List (List SnpEntry)). CoverIds start (csnps l start (take 75 entries ∷ ps))) (sym shape.2)
    (refl, cut.2, subst (λ (ps : List (List SnpEntry)). CoverIds (end + 1) (csnps l (end + 1) ps)) shape.2 rest))

-- ---- the CSNP set of a router that is sorted and good

short-ids : (r : Router) (l : Level) → IsSorted r → IsGoodRouter r → HasShortIds (book_of r l)
short-ids r l sorted good = let b = book_of r l in good-ids b.cells b.cells (good.on l).at (all-found b.cells 0 (sorted.on l))

keys-rise : (r : Router) (l : Level) → IsSorted r → IsGoodRouter r → Rises 0 (held_keys (book_of r l))
keys-rise r l sorted good = listed-rises _ (book_of r l).cells 0 (sorted.on l) (short-ids r l sorted good)

cut-lists : (r : Router) (l : Level) (s : Sent) → IsCut l 0 (held_keys (book_of r l)) s → ListsExactly r s
cut-lists r l (PointHello state extended names) p = tt
cut-lists r l (LanHello m lan snpas) p = tt
cut-lists r l (Lsp m id cell) p = tt
cut-lists r l (Psnp m piece) p = tt
cut-lists r l (Csnp m first last piece) p = p.is ∙ ap (λ (k : Level). within first last (held_keys (book_of r k))) (sym p.level_is)

set-lists : (r : Router) (l : Level) → IsSorted r → IsGoodRouter r → AllByRecursion (ListsExactly r) (csnp_set l (book_of r l))
set-lists r l sorted good =
    let b = book_of r l in
    all-map (IsCut l 0 (held_keys b)) (ListsExactly r) (csnp_set l b) (cut-lists r l)
    (pieces-cut l (length b.cells) (held_keys b) 0 0 (listed-few _ b.cells) zero-le (keys-rise r l sorted good))

set-covers : (r : Router) (l : Level) → IsSorted r → IsGoodRouter r → CoverIds 0 (csnp_set l (book_of r l))
set-covers r l sorted good =
    let b = book_of r l in pieces-ids l (length b.cells) (held_keys b) 0 (listed-few _ b.cells) (omega arith) (keys-rise r l sorted good)

-- ---- what is sent beside CSNP sets, and whose they are

abbrev NoneOf : Level → List Sent → Type 0
NoneOf m out = AllByRecursion (λ (s : Sent). is_csnp_of m s ≡ false) out

csnps-all : (P : Sent → Type 0) (l : Level) (start : ℕ) (ps : List (List SnpEntry)) → ((first last : ℕ) (piece : List SnpEntry) → P (Csnp l first last piece))
    → AllByRecursion P (csnps l start ps)
csnps-all P l start [] f = tt
csnps-all P l start (piece ∷ []) f = (f start (2 ^ 64 - 1) piece, tt)
csnps-all P l start (piece ∷ next ∷ rest) f = (f start (last_id piece) piece, csnps-all P l (last_id piece + 1) (next ∷ rest) f)

level-self : (l : Level) → is_level l l ≡ true
level-self level.One = refl
level-self level.Two = refl

set-own : (l : Level) (b : Book) → filter (is_csnp_of l) (csnp_set l b) ≡ csnp_set l b
set-own l b = all-kept (is_csnp_of l) (csnp_set l b) (csnps-all (λ (s : Sent). is_csnp_of l s ≡ true) l 0 _ (λ first last piece. level-self l))

set-other : (l m : Level) (b : Book) → is_level l m ≡ false → NoneOf m (csnp_set l b)
set-other l m b e = csnps-all (λ (s : Sent). is_csnp_of m s ≡ false) l 0 _ (λ first last piece. e)

psnps-none : (m l : Level) (ps : List (List SnpEntry)) → NoneOf m (psnps l ps)
psnps-none m l [] = tt
psnps-none m l (piece ∷ rest) = (refl, psnps-none m l rest)

due-none : (m l : Level) (place : ℕ) (cells : List (ℕ × Cell)) → NoneOf m (due_lsps l place cells)
due-none m l place [] = tt
due-none m l place (p ∷ cells) =
    choose (NoneOf m) (srm_due place p.1) (Lsp l p.0 p.1 ∷ due_lsps l place cells) (due_lsps l place cells) (λ _. (refl, due-none m l place cells))
    (λ _. due-none m l place cells)

none-append : (m : Level) (xs ys : List Sent) → NoneOf m xs → NoneOf m ys → NoneOf m (xs ++ ys)
none-append m [] ys a b = b
none-append m (x ∷ xs) ys a b = (a.0, none-append m xs ys a.1 b)

lan_hello-none : (m : Level) (r : Router) (place : ℕ) (c : Circuit) (l : Level) → NoneOf m (lan_hello r place c l)
lan_hello-none m r place c l = choose (NoneOf m) (at r.config.runs l) _ [] (λ _. (refl, tt)) (λ _. tt)

hellos-none : (m : Level) (r : Router) (place : ℕ) (c : Circuit) → NoneOf m (hellos r place c)
hellos-none m r place c = choose (NoneOf m) c.lan _ _
    (λ _. none-append m (lan_hello r place c level.One) (lan_hello r place c level.Two) (lan_hello-none m r place c level.One)
    (lan_hello-none m r place c level.Two))
    (λ _. (refl, tt))

-- ---- what sending leaves of keys

record SameBook (b c : Book) : Type 0 where
  keys : held_keys c ≡ held_keys b
  count : length c.cells ≡ length b.cells

record SameKeys (r t : Router) : Type 0 where
  on : (l : Level) → SameBook (book_of r l) (book_of t l)

same-trans : (r s t : Router) → SameKeys r s → SameKeys s t → SameKeys r t
same-trans r s t f g = record { on = λ l. record { keys = (g.on l).keys ∙ (f.on l).keys; count = (g.on l).count ∙ (f.on l).count } }

-- circuits change alone
same-aside : (r t : Router) → t.levels ≡ r.levels → SameKeys r t
same-aside r t e =
    record {
      on = λ l. record {
        keys = ap (λ (both : Both LevelState). held_keys (at both l).book) e;
        count = ap (λ (both : Both LevelState). length (at both l).book.cells) e;
      };
    }

set-same : (l : Level) (b c : Book) → SameBook b c → csnp_set l c ≡ csnp_set l b
set-same l b c k = ap₂ (λ (n : ℕ) (entries : List SnpEntry). csnps l 0 (pieces (suc n) entries)) k.count k.keys

each-keys : (f : ℕ → Cell → Cell) → ((id : ℕ) (c : Cell) → snp_entry id (f id c) ≡ snp_entry id c) → (cells : List (ℕ × Cell))
    → entries_where (λ (c : Cell). nat_lt 0 c.rank) (each f cells) ≡ entries_where (λ (c : Cell). nat_lt 0 c.rank) cells
unfolding each
each-keys f k [] = refl
each-keys f k (p ∷ cells) = ap₂ (λ (h : SnpEntry) (entries : List SnpEntry). if nat_lt 0 h.rank then h ∷ entries else entries) (k p.0 p.1) (each-keys f k cells)

each-count : (f : ℕ → Cell → Cell) (cells : List (ℕ × Cell)) → length (each f cells) ≡ length cells
unfolding each
each-count f [] = refl
each-count f (p ∷ cells) = ap suc (each-count f cells)

sent-entry : (p2p place id : ℕ) (c : Cell) → snp_entry id (sent_cell p2p place c) ≡ snp_entry id c
sent-entry p2p place id c = by-tests (srm_due place c) (has p2p place)
  where
    by-tests : (s t : Bool) → snp_entry id (if s then (if t then srm_sent c place else srm_off c place) else c) ≡ snp_entry id c
    by-tests true true = refl
    by-tests true false = refl
    by-tests false t = refl

sent-same : (b : Book) (place : ℕ) → SameBook b (sent b place)
unfolding sent
sent-same b place = record { keys = each-keys _ (λ id c. sent-entry b.p2p place id c) b.cells; count = each-count _ b.cells }

answered-same : (b : Book) (place : ℕ) → SameBook b (answered b place)
unfolding answered
answered-same b place = record { keys = each-keys (λ (_ : ℕ) (c : Cell). ssn_off c place) (λ id c. refl) b.cells; count = each-count _ b.cells }

book-same : (r : Router) (l : Level) (b : Book) → SameBook (book_of r l) b → SameKeys r (with_book r l b)
book-same r l b h = record { on = λ m. one l m h }
  where
    one : (l m : Level) → SameBook (book_of r l) b → SameBook (book_of r m) (book_of (with_book r l b) m)
    one level.One level.One h = h
    one level.One level.Two h = record { keys = refl; count = refl }
    one level.Two level.One h = record { keys = refl; count = refl }
    one level.Two level.Two h = h

-- ---- a pull

abbrev of_level : Level → Sending → List Sent
of_level m s = filter (is_csnp_of m) s.out

-- no CSNP of a level is sent
record Leaves (m : Level) (s t : Sending) : Type 0 where
  keys : SameKeys s.router t.router
  out : of_level m t ≡ of_level m s

-- no CSNP of a level, or its set
record Adds (l : Level) (s t : Sending) : Type 0 where
  keys : SameKeys s.router t.router
  out : (of_level l t ≡ of_level l s) ⊎ (of_level l t ≡ of_level l s ++ csnp_set l (book_of s.router l))

leaves-refl : (m : Level) (s : Sending) → Leaves m s s
leaves-refl m s = record { keys = same-aside s.router s.router refl; out = refl }

leaves-trans : (m : Level) (s t u : Sending) → Leaves m s t → Leaves m t u → Leaves m s u
leaves-trans m s t u f g = record { keys = same-trans s.router t.router u.router f.keys g.keys; out = g.out ∙ f.out }

adds-leaves : (l : Level) (s t u : Sending) → Adds l s t → Leaves l t u → Adds l s u
adds-leaves l s t u f g = record { keys = same-trans s.router t.router u.router f.keys g.keys; out = either f.out }
  where
    either : (of_level l t ≡ of_level l s) ⊎ (of_level l t ≡ of_level l s ++ csnp_set l (book_of s.router l))
        → (of_level l u ≡ of_level l s) ⊎ (of_level l u ≡ of_level l s ++ csnp_set l (book_of s.router l))
    either (inl e) = inl (g.out ∙ e)
    either (inr e) = inr (g.out ∙ e)

leaves-more : (m : Level) (s t : Sending) (more : List Sent) → t.out ≡ s.out ++ more → NoneOf m more → SameKeys s.router t.router → Leaves m s t
leaves-more m s t more e none k = record {
  keys = k;
  out =
      ap (filter (is_csnp_of m)) e ∙ filter-append (is_csnp_of m) s.out more ∙ ap (λ (x : List Sent). of_level m s ++ x) (none-kept (is_csnp_of m) more none)
      ∙ append-nil (of_level m s);
}

pull_hello-leaves : (m : Level) (s : Sending) (place : ℕ) (c : Circuit) → Leaves m s (pull_hello s place c)
unfolding pull_hello
pull_hello-leaves m s place c =
    choose (Leaves m s) (c.hello == 0) _ s
    (λ _. leaves-more m s _ (hellos s.router place c) refl (hellos-none m s.router place c) (same-aside s.router _ refl)) (λ _. leaves-refl m s)

pull_csnp-leaves : (l m : Level) (s : Sending) (place : ℕ) (c : Circuit) → is_level l m ≡ false → Leaves m s (pull_csnp s place l c)
unfolding pull_csnp
pull_csnp-leaves l m s place c e =
    choose (Leaves m s) (is_csnp_due s.router.config place c l) _ s
    (λ _. leaves-more m s _ (csnp_set l (book_of s.router l)) refl (set-other l m (book_of s.router l) e) (same-aside s.router _ refl)) (λ _. leaves-refl m s)

pull_csnp-adds : (l : Level) (s : Sending) (place : ℕ) (c : Circuit) → Adds l s (pull_csnp s place l c)
unfolding pull_csnp
pull_csnp-adds l s place c =
    choose (Adds l s) (is_csnp_due s.router.config place c l) _ s
    (λ _. record {
      keys = same-aside s.router _ refl;
      out =
          inr (filter-append (is_csnp_of l) s.out (csnp_set l (book_of s.router l))
          ∙ ap (λ (x : List Sent). of_level l s ++ x) (set-own l (book_of s.router l)));
    })
    (λ _. record { keys = same-aside s.router s.router refl; out = inl refl })

pull_lsps-leaves : (m : Level) (s : Sending) (place : ℕ) (l : Level) → Leaves m s (pull_lsps s place l)
unfolding pull_lsps
pull_lsps-leaves m s place l =
    leaves-more m s _ (due_lsps l place (book_of s.router l).cells) refl (due-none m l place (book_of s.router l).cells)
    (book-same s.router l (sent (book_of s.router l) place) (sent-same (book_of s.router l) place))

answered-later : (r : Router) (place : ℕ) (new : Circuit) (l : Level) → SameKeys r (with_book (with_circuit r place new) l (answered (book_of r l) place))
answered-later r place new l =
    same-trans r (with_circuit r place new) _ (same-aside r (with_circuit r place new) refl)
    (book-same (with_circuit r place new) l (answered (book_of r l) place) (answered-same (book_of r l) place))

pull_psnp-leaves : (m : Level) (s : Sending) (place : ℕ) (l : Level) (c : Circuit) → Leaves m s (pull_psnp s place l c)
unfolding pull_psnp
pull_psnp-leaves m s place l c =
    let entries = owed place (book_of s.router l) in
    choose (Leaves m s) (nat_lt 0 (length entries) && (at c.levels l).psnp == 0) _ s
    (λ _. leaves-more m s _ (psnps l (pieces (length entries) entries)) refl (psnps-none m l _) (answered-later s.router place _ l))
    (λ _. leaves-refl m s)

-- what a level sends behind its CSNPs
rest-leaves : (m : Level) (s : Sending) (place : ℕ) (l : Level) → Leaves m s (at_circuit (pull_lsps s place l) place (pull_psnp (pull_lsps s place l) place l))
rest-leaves m s place l =
    let lsps = pull_lsps s place l in
    let first = pull_lsps-leaves m s place l in
    at_circuit-tells (Leaves m s) lsps place (pull_psnp lsps place l) first (λ c. leaves-trans m s lsps _ first (pull_psnp-leaves m lsps place l c))

pull_level-leaves : (l m : Level) (s : Sending) (place : ℕ) → is_level l m ≡ false → Leaves m s (pull_level s place l)
unfolding pull_level
pull_level-leaves l m s place e =
    let csnp = at_circuit s place (pull_csnp s place l) in
    let lsps = pull_lsps csnp place l in
    choose (Leaves m s) (has (book_of s.router l).opened place) (at_circuit lsps place (pull_psnp lsps place l)) s
    (λ _. leaves-trans m s csnp _ (at_circuit-tells (Leaves m s) s place (pull_csnp s place l) (leaves-refl m s) (λ c. pull_csnp-leaves l m s place c e))
    (rest-leaves m csnp place l))
    (λ _. leaves-refl m s)

pull_level-adds : (l : Level) (s : Sending) (place : ℕ) → Adds l s (pull_level s place l)
unfolding pull_level
pull_level-adds l s place =
    let csnp = at_circuit s place (pull_csnp s place l) in
    let lsps = pull_lsps csnp place l in
    let none : Adds l s s = record { keys = same-aside s.router s.router refl; out = inl refl } in
    choose (Adds l s) (has (book_of s.router l).opened place) (at_circuit lsps place (pull_psnp lsps place l)) s
    (λ _. adds-leaves l s csnp _ (at_circuit-tells (Adds l s) s place (pull_csnp s place l) none (λ c. pull_csnp-adds l s place c))
    (rest-leaves l csnp place l))
    (λ _. none)

-- a pull sends no CSNP of a level, or its set
record Pulled (m : Level) (r : Router) (s : Sending) : Type 0 where
  keys : SameKeys r s.router
  out : (of_level m s ≡ []) ⊎ (of_level m s ≡ csnp_set m (book_of r m))

pulled : (m : Level) (s t u v : Sending) → s.out ≡ [] → Leaves m s t → Adds m t u → Leaves m u v → Pulled m s.router v
pulled m s t u v e f g h =
    record { keys = same-trans s.router t.router v.router f.keys (same-trans t.router u.router v.router g.keys h.keys); out = either g.out }
  where
    none : of_level m t ≡ []
    none = f.out ∙ ap (filter (is_csnp_of m)) e

    either : (of_level m u ≡ of_level m t) ⊎ (of_level m u ≡ of_level m t ++ csnp_set m (book_of t.router m))
        → (of_level m v ≡ []) ⊎ (of_level m v ≡ csnp_set m (book_of s.router m))
    either (inl x) = inl (h.out ∙ x ∙ none)
    either (inr x) =
        inr (h.out ∙ x ∙ ap (λ (y : List Sent). y ++ csnp_set m (book_of t.router m)) none
        ∙ set-same m (book_of s.router m) (book_of t.router m) (f.keys.on m))

pull-sends : (r : Router) (place : ℕ) (m : Level) → Pulled m r (pull r place)
unfolding pull
pull-sends r place level.One =
    let start : Sending = record { router = r; out = [] } in
    let hello = at_circuit start place (pull_hello start place) in
    let one = pull_level hello place level.One in
    pulled level.One start hello one (pull_level one place level.Two) refl
    (at_circuit-tells (Leaves level.One start) start place (pull_hello start place) (leaves-refl level.One start)
    (λ c. pull_hello-leaves level.One start place c))
    (pull_level-adds level.One hello place) (pull_level-leaves level.Two level.One one place refl)
pull-sends r place level.Two =
    let start : Sending = record { router = r; out = [] } in
    let hello = at_circuit start place (pull_hello start place) in
    let one = pull_level hello place level.One in
    let two = pull_level one place level.Two in
    pulled level.Two start one two two refl
    (leaves-trans level.Two start hello one
    (at_circuit-tells (Leaves level.Two start) start place (pull_hello start place) (leaves-refl level.Two start)
    (λ c. pull_hello-leaves level.Two start place c))
    (pull_level-leaves level.One level.Two hello place refl))
    (pull_level-adds level.Two one place) (leaves-refl level.Two two)

-- ---- what holds of the CSNPs of both levels holds of all that is sent

both-levels : (r : Router) (out : List Sent) → AllByRecursion (ListsExactly r) (filter (is_csnp_of level.One) out)
    → AllByRecursion (ListsExactly r) (filter (is_csnp_of level.Two) out) → AllByRecursion (ListsExactly r) out
both-levels r [] a b = tt
both-levels r (PointHello state extended names ∷ out) a b = (tt, both-levels r out a b)
both-levels r (LanHello m lan snpas ∷ out) a b = (tt, both-levels r out a b)
both-levels r (Lsp m id cell ∷ out) a b = (tt, both-levels r out a b)
both-levels r (Csnp level.One first last entries ∷ out) a b = (a.0, both-levels r out a.1 b)
both-levels r (Csnp level.Two first last entries ∷ out) a b = (b.0, both-levels r out a b.1)
both-levels r (Psnp m entries ∷ out) a b = (tt, both-levels r out a b)

pulled-lists : (m : Level) (r : Router) (s : Sending) → IsSorted r → IsGoodRouter r → Pulled m r s → AllByRecursion (ListsExactly r) (of_level m s)
pulled-lists m r s sorted good p = from p.out
  where
    from : (of_level m s ≡ []) ⊎ (of_level m s ≡ csnp_set m (book_of r m)) → AllByRecursion (ListsExactly r) (of_level m s)
    from (inl e) = subst (AllByRecursion (ListsExactly r)) (sym e) tt
    from (inr e) = subst (AllByRecursion (ListsExactly r)) (sym e) (set-lists r m sorted good)

lists-later : (r t : Router) → SameKeys r t → (s : Sent) → ListsExactly r s → ListsExactly t s
lists-later r t k (PointHello state extended names) x = tt
lists-later r t k (LanHello m lan snpas) x = tt
lists-later r t k (Lsp m id cell) x = tt
lists-later r t k (Csnp m first last entries) x = x ∙ ap (within first last) (sym (k.on m).keys)
lists-later r t k (Psnp m entries) x = tt

-- ---- the reply

acks-none : (m : Level) (c : Circuit) (l : Level) (h : Heard) (row : LspCase) → csnps_in m (acks c l h row) ≡ []
acks-none m c l h lsp.AckPurge = choose (λ (reply : Reply). csnps_in m reply ≡ []) c.lan Done (Send _) (λ _. refl) (λ _. refl)
acks-none m c l h lsp.Outbid = refl
acks-none m c l h lsp.PurgedOwn = refl
acks-none m c l h lsp.Confused = refl
acks-none m c l h lsp.Stored = refl
acks-none m c l h lsp.Same = refl
acks-none m c l h lsp.Older = refl

taken-none : (m : Level) (given : Given) (r : Router) (place : ℕ) (c : Circuit) (x : Message) → csnps_in m (taken given r place c x).reply ≡ []
taken-none m given r place c (Refused cause) = refl
taken-none m given r place c (PointHelloHeard h) = refl
taken-none m given r place c (LanHelloHeard l h) = refl
taken-none m given r place c (LspHeard l from h) = acks-none m c l h _
taken-none m given r place c (SnpHeard l from source range entries) = refl

take_or_drop-none : (m : Level) (given : Given) (r : Router) (place : ℕ) (c : Circuit) (x : Message) (drop : Option DropName)
    → csnps_in m (take_or_drop given r place c x drop).reply ≡ []
take_or_drop-none m given r place c x (Some cause) = refl
take_or_drop-none m given r place c x None = taken-none m given r place c x

take-none : (m : Level) (given : Given) (r : Router) (place : ℕ) (x : Message) (c : Option Circuit) → csnps_in m (receiving.take given r place x c).reply ≡ []
take-none m given r place x None = refl
take-none m given r place x (Some c) = take_or_drop-none m given r place c x (drop_of r place c x)

-- without CSNPs nothing is to be shown
none-lists : (r : Router) (reply : Reply) → ((m : Level) → csnps_in m reply ≡ []) → ReplyListsExactly r reply
none-lists r Done none = tt
none-lists r (Dropped cause) none = tt
none-lists r (Send out) none =
    both-levels r out (subst (AllByRecursion (ListsExactly r)) (sym (none level.One)) tt) (subst (AllByRecursion (ListsExactly r)) (sym (none level.Two)) tt)

pub step-lists : (given : Given) (r : Router) (event : Event) → IsSorted r → IsGoodRouter r
    → ReplyListsExactly (step given r event).router (step given r event).reply
unfolding step
step-lists given r Second sorted good = tt
step-lists given r (Take place x) sorted good =
    none-lists (step given r (Take place x)).router (receiving.take given r place x (nth r.circuits place)).reply
    (λ m. take-none m given r place x (nth r.circuits place))
step-lists given r (Pull place) sorted good =
    let s = pull r place in
    let t = (settled (sent_all s)).router in
    all-map (ListsExactly r) (ListsExactly t) s.out (lists-later r t (same-trans r s.router t (pull-sends r place level.One).keys (same-aside s.router t refl)))
    (both-levels r s.out (pulled-lists level.One r s sorted good (pull-sends r place level.One))
    (pulled-lists level.Two r s sorted good (pull-sends r place level.Two)))
step-lists given r (Metric place metric) sorted good = tt
step-lists given r (Overload on) sorted good = tt
step-lists given r (Prefix prefix metric) sorted good = tt

pulled-set : (m : Level) (r : Router) (s : Sending) → Pulled m r s → AreNoneOrSet s.router m (Send s.out)
pulled-set m r s p = from p.out
  where
    from : (of_level m s ≡ []) ⊎ (of_level m s ≡ csnp_set m (book_of r m)) → AreNoneOrSet s.router m (Send s.out)
    from (inl e) = inl e
    from (inr e) = inr (e ∙ sym (set-same m (book_of r m) (book_of s.router m) (p.keys.on m)))

pub step-set : (given : Given) (r : Router) (event : Event) (m : Level) → AreNoneOrSet (step given r event).router m (step given r event).reply
unfolding step
step-set given r Second m = inl refl
step-set given r (Take place x) m = inl (take-none m given r place x (nth r.circuits place))
step-set given r (Pull place) m = pulled-set m r (pull r place) (pull-sends r place m)
step-set given r (Metric place metric) m = inl refl
step-set given r (Overload on) m = inl refl
step-set given r (Prefix prefix metric) m = inl refl

pulled-covers : (m : Level) (r : Router) (s : Sending) → IsSorted r → IsGoodRouter r → Pulled m r s → AreNoneOrCovering m (Send s.out)
pulled-covers m r s sorted good p = from p.out
  where
    from : (of_level m s ≡ []) ⊎ (of_level m s ≡ csnp_set m (book_of r m)) → AreNoneOrCovering m (Send s.out)
    from (inl e) = inl e
    from (inr e) = inr (subst (CoverIds 0) (sym e) (set-covers r m sorted good))

pub step-covers : (given : Given) (r : Router) (event : Event) (m : Level) → IsSorted r → IsGoodRouter r → AreNoneOrCovering m (step given r event).reply
unfolding step
step-covers given r Second m sorted good = inl refl
step-covers given r (Take place x) m sorted good = inl (take-none m given r place x (nth r.circuits place))
step-covers given r (Pull place) m sorted good = pulled-covers m r (pull r place) sorted good (pull-sends r place m)
step-covers given r (Metric place metric) m sorted good = inl refl
step-covers given r (Overload on) m sorted good = inl refl
step-covers given r (Prefix prefix metric) m sorted good = inl refl
