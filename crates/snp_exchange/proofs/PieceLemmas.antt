-- Pieces of 75, filled one entry after another, as the definitions cut them.
use Rattle.std.proofs.Common.{◌≡◌, Bool, true, false, if◌then◌else◌, ℕ, zero, suc, ◌+◌, ◌≤◌, ◌<◌, eqb, nat_lt, nat_le, List, [], ◌∷◌, ◌++◌, length, take, drop, Vec, refl, sym, ap, ap₂, ◌∙◌, subst, arith}
use Rattle.std.specs.declared.alloc.Global.{Global}
use Rattle.std.proofs.lemmas.Bool.Decides.{nat_tests}
use Rattle.std.proofs.lemmas.List.{append_assoc, append-nil, length-append}
use Rattle.std.proofs.Math.Seq.{take-append_seam, drop-append_seam}
use Rattle.isis_base.specs.declared.level.Level.{Level}
use Rattle.isis_base.specs.declared.entry.LspEntry.{LspEntry}
use Rattle.isis_base.specs.Identifiers.{lsp_number}
use Rattle.model_router.specs.Cells.{Cell}
use Rattle.model_router.specs.Books.{Book}
use Rattle.model_router.specs.SnpTable.{SnpEntry}
use Rattle.model_router.specs.SnpLists.{entries_where, pieces, csnps, csnp_set, held_keys, owed, last_id}
use Rattle.model_router.specs.Datagrams.{Sent, Csnp}
use Rattle.flag_sync.specs.Heard.{entry_of, entries_of}
use Rattle.snp_exchange.specs.declared.csnp.Piece.{Piece}
use Rattle.snp_exchange.specs.Pieces.{sent, filled, lists_of, listed}

-- ---- one piece more

full-take : (here : List SnpEntry) (rest : List SnpEntry) → length here ≡ 75 → take 75 (here ++ rest) ≡ here
full-take here rest e = subst (λ (n : ℕ). take n (here ++ rest) ≡ here) e (take-append_seam here rest)

full-drop : (here : List SnpEntry) (rest : List SnpEntry) → length here ≡ 75 → drop 75 (here ++ rest) ≡ rest
full-drop here rest e = subst (λ (n : ℕ). drop n (here ++ rest) ≡ rest) e (drop-append_seam here rest)

-- what fits into one piece
one-piece : (count : ℕ) (here : List SnpEntry) → length here ≤ 75 → pieces (suc count) here ≡ here ∷ []
one-piece count here le = let yes : nat_le (length here) 75 ≡ true = grind (arith, nat_tests, le) in rw yes refl

-- a full piece, and what is behind it
more-pieces : (count : ℕ) (here : List SnpEntry) (h : SnpEntry) (rest : List SnpEntry) → length here ≡ 75 → pieces (suc count) (here ++ h ∷ rest) ≡ here ∷ pieces count (h ∷ rest)
more-pieces count here h rest e =
    let len = length-append here (h ∷ rest) in
    let no : nat_le (length (here ++ h ∷ rest)) 75 ≡ false = grind (arith, nat_tests, len, e) in
    rw no (ap₂ (λ (a b : List SnpEntry). a ∷ pieces count b) (full-take here (h ∷ rest) e) (full-drop here (h ∷ rest) e))

-- ---- CSNPs

more-csnps : (level : Level) (start count : ℕ) (here rest : List SnpEntry) → csnps level start (here ∷ pieces (suc count) rest) ≡ Csnp level start (last_id here) here ∷ csnps level (last_id here + 1) (pieces (suc count) rest)
more-csnps level start count here rest = cases (nat_le (length rest) 75)
  where
    cases : (t : Bool) → csnps level start (here ∷ (if t then rest ∷ [] else take 75 rest ∷ pieces count (drop 75 rest))) ≡ Csnp level start (last_id here) here ∷ csnps level (last_id here + 1) (if t then rest ∷ [] else take 75 rest ∷ pieces count (drop 75 rest))
    cases true = refl
    cases false = refl

pub filled-pieces : (level : Level) (rest here : List SnpEntry) (start count : ℕ) → length here ≤ 75 → length rest ≤ count → filled level start here rest ≡ csnps level start (pieces (suc count) (here ++ rest))
filled-pieces level [] here start count le fuel = sym (ap (csnps level start) (ap (pieces (suc count)) (append-nil here) ∙ one-piece count here le))
filled-pieces level (h ∷ rest) here start zero le fuel = absurd (omega (arith, fuel))
filled-pieces level (h ∷ rest) here start (suc count) le fuel =
    cases (eqb (length here) 75) refl
    (filled-pieces level rest (h ∷ []) (last_id here + 1) count (omega arith) (omega (arith, fuel)))
    (λ lt. filled-pieces level rest (here ++ h ∷ []) start (suc count) (let len = length-append here (h ∷ []) in omega (arith, len, lt)) (omega (arith, fuel)))
  where
    cases : (t : Bool) → eqb (length here) 75 ≡ t
        → filled level (last_id here + 1) (h ∷ []) rest ≡ csnps level (last_id here + 1) (pieces (suc count) (h ∷ rest))
        → (length here < 75 → filled level start (here ++ h ∷ []) rest ≡ csnps level start (pieces (suc (suc count)) ((here ++ h ∷ []) ++ rest)))
        → (if t then Csnp level start (last_id here) here ∷ filled level (last_id here + 1) (h ∷ []) rest else filled level start (here ++ h ∷ []) rest) ≡ csnps level start (pieces (suc (suc count)) (here ++ h ∷ rest))
    cases true e f g =
        let full : length here ≡ 75 = grind (arith, nat_tests, e) in
        ap (λ (xs : List Sent). Csnp level start (last_id here) here ∷ xs) f ∙ sym (ap (csnps level start) (more-pieces (suc count) here h rest full) ∙ more-csnps level start count here (h ∷ rest))
    cases false e f g =
        let lt : length here < 75 = grind (arith, nat_tests, e, le) in
        g lt ∙ ap (λ (xs : List SnpEntry). csnps level start (pieces (suc (suc count)) xs)) (append_assoc here (h ∷ []) rest)

pub length-where : (test : Cell → Bool) (cells : List (ℕ × Cell)) → length (entries_where test cells) ≤ length cells
length-where test [] = omega arith
length-where test (p ∷ cells) = let h = length-where test cells in grind (arith, nat_tests, h)

-- ---- PSNPs

pub listed-pieces : (rest here : List SnpEntry) (count : ℕ) → 0 < length here → length here ≤ 75 → length rest ≤ count → listed here rest ≡ pieces (suc count) (here ++ rest)
listed-pieces [] here count some le fuel =
    let yes : nat_lt 0 (length here) ≡ true = grind (arith, nat_tests, some) in
    rw yes (sym (ap (pieces (suc count)) (append-nil here) ∙ one-piece count here le))
listed-pieces (h ∷ rest) here zero some le fuel = absurd (omega (arith, fuel))
listed-pieces (h ∷ rest) here (suc count) some le fuel =
    cases (eqb (length here) 75) refl
    (listed-pieces rest (h ∷ []) count (omega arith) (omega arith) (omega (arith, fuel)))
    (λ lt. let len = length-append here (h ∷ []) in listed-pieces rest (here ++ h ∷ []) (suc count) (omega (arith, len)) (omega (arith, len, lt)) (omega (arith, fuel)))
  where
    cases : (t : Bool) → eqb (length here) 75 ≡ t
        → listed (h ∷ []) rest ≡ pieces (suc count) (h ∷ rest)
        → (length here < 75 → listed (here ++ h ∷ []) rest ≡ pieces (suc (suc count)) ((here ++ h ∷ []) ++ rest))
        → (if t then here ∷ listed (h ∷ []) rest else listed (here ++ h ∷ []) rest) ≡ pieces (suc (suc count)) (here ++ h ∷ rest)
    cases true e f g =
        let full : length here ≡ 75 = grind (arith, nat_tests, e) in
        ap (λ (xs : List (List SnpEntry)). here ∷ xs) f ∙ sym (more-pieces (suc count) here h rest full)
    cases false e f g =
        let lt : length here < 75 = grind (arith, nat_tests, e, le) in
        g lt ∙ ap (pieces (suc (suc count))) (append_assoc here (h ∷ []) rest)

pub listed-all : (xs : List SnpEntry) → listed [] xs ≡ pieces (length xs) xs
listed-all [] = refl
listed-all (h ∷ rest) = listed-pieces rest (h ∷ []) (length rest) (omega arith) (omega arith) (omega arith)

-- ---- entries and pieces one after another

pub length-entries : (xs : List LspEntry) → length (entries_of xs) ≡ length xs
length-entries [] = refl
length-entries (x ∷ xs) = ap suc (length-entries xs)

pub entries-append : (xs ys : List LspEntry) → entries_of (xs ++ ys) ≡ entries_of xs ++ entries_of ys
entries-append [] ys = refl
entries-append (x ∷ xs) ys = ap (λ (zs : List SnpEntry). entry_of x ∷ zs) (entries-append xs ys)

pub last-append : (xs : List SnpEntry) (h : SnpEntry) → last_id (xs ++ h ∷ []) ≡ h.id
last-append [] h = refl
last-append (x ∷ []) h = refl
last-append (x ∷ y ∷ xs) h = last-append (y ∷ xs) h

pub sent-append : (level : Level) (xs ys : List Piece) → sent level (xs ++ ys) ≡ sent level xs ++ sent level ys
sent-append level [] ys = refl
sent-append level (x ∷ xs) ys = ap (λ (zs : List Sent). Csnp level (lsp_number x.start) (lsp_number x.end) (entries_of x.entries) ∷ zs) (sent-append level xs ys)

pub lists-append : (xs ys : List (Vec LspEntry Global)) → lists_of (xs ++ ys) ≡ lists_of xs ++ lists_of ys
lists-append [] ys = refl
lists-append (x ∷ xs) ys = ap (λ (zs : List (List SnpEntry)). entries_of x.items ∷ zs) (lists-append xs ys)

-- ---- an entry more

pub list-more : (here new : List LspEntry) (said : LspEntry) (rest : List SnpEntry) → new ≡ here ++ said ∷ [] → length here < 75 → listed (entries_of new) rest ≡ listed (entries_of here) (entry_of said ∷ rest)
list-more here new said rest e lt =
    let len = length-entries here in
    let no : eqb (length (entries_of here)) 75 ≡ false = grind (arith, nat_tests, len, lt) in
    rw no (ap (λ (xs : List SnpEntry). listed xs rest) (ap entries_of e ∙ entries-append here (said ∷ [])))

pub list-full : (lists new : List (Vec LspEntry Global)) (here : Vec LspEntry Global) (said : LspEntry) (rest : List SnpEntry) → new ≡ lists ++ here ∷ [] → length here.items ≡ 75 → lists_of new ++ listed (entry_of said ∷ []) rest ≡ lists_of lists ++ listed (entries_of here.items) (entry_of said ∷ rest)
list-full lists new here said rest e full =
    let len = length-entries here.items in
    let yes : eqb (length (entries_of here.items)) 75 ≡ true = grind (arith, nat_tests, len, full) in
    ap (λ (xs : List (List SnpEntry)). xs ++ listed (entry_of said ∷ []) rest) (ap lists_of e ∙ lists-append lists (here ∷ []))
    ∙ append_assoc (lists_of lists) (entries_of here.items ∷ []) (listed (entry_of said ∷ []) rest) ∙ rw yes refl

-- ---- the whole

pub set-said : (xs : List LspEntry) (level : Level) → filled level 0 [] (entries_of xs) ≡ csnps level 0 (pieces (suc (length xs)) (entries_of xs))
set-said xs level = let len = length-entries xs in filled-pieces level (entries_of xs) [] 0 (length xs) (omega arith) (omega (arith, len))

pub set-same : (b : Book) (xs : List LspEntry) (level : Level) → entries_of xs ≡ held_keys b → filled level 0 [] (entries_of xs) ≡ csnp_set level b
set-same b xs level e =
    ap (filled level 0 []) e ∙ filled-pieces level (held_keys b) [] 0 (length b.cells) (omega arith) (length-where (λ (c : Cell). nat_lt 0 c.rank) b.cells)

pub lists-said : (xs : List LspEntry) → listed [] (entries_of xs) ≡ pieces (length xs) (entries_of xs)
lists-said xs = listed-all (entries_of xs) ∙ ap (λ (n : ℕ). pieces n (entries_of xs)) (length-entries xs)

pub lists-same : (b : Book) (place : ℕ) (xs : List LspEntry) → entries_of xs ≡ owed place b → listed [] (entries_of xs) ≡ pieces (length (owed place b)) (owed place b)
lists-same b place xs e = ap (listed []) e ∙ listed-all (owed place b)

pub list-end : (lists new : List (Vec LspEntry Global)) (here : Vec LspEntry Global) → new ≡ lists ++ here ∷ [] → 0 < length here.items → lists_of new ≡ lists_of lists ++ listed (entries_of here.items) []
list-end lists new here e some =
    let len = length-entries here.items in
    let yes : nat_lt 0 (length (entries_of here.items)) ≡ true = grind (arith, nat_tests, len, some) in
    ap lists_of e ∙ lists-append lists (here ∷ []) ∙ rw yes refl
