-- The pieces of a CSNP set, one after another.
use Rattle.std.proofs.Common.{◌≡◌, Bool, true, false, if◌then◌else◌, ℕ, suc, ◌+◌, ◌-◌, ◌^◌, ◌≤◌, ◌<◌, eqb, List, [], ◌∷◌, ◌++◌, length, take, Option, Some, None, refl, sym, ap, ap₂, ◌∙◌, arith}
use Rattle.std.proofs.lemmas.Bool.Decides.{nat_tests}
use Rattle.std.proofs.lemmas.List.{append_assoc, append-nil, length-append}
use Rattle.std.proofs.Math.Seq.{take-append_seam}
use Rattle.isis_base.specs.declared.level.Level.{Level}
use Rattle.isis_base.specs.declared.identifiers.LspId.{LspId}
use Rattle.isis_base.specs.declared.entry.LspEntry.{LspEntry}
use Rattle.isis_base.specs.Identifiers.{lsp_number}
use Rattle.model_router.specs.Books.{Book}
use Rattle.model_router.specs.SnpTable.{SnpEntry}
use Rattle.model_router.specs.SnpLists.{pieces, csnps, csnp_set, held_keys, last_id}
use Rattle.model_router.specs.Datagrams.{Sent, Csnp}
use Rattle.flag_sync.specs.Heard.{entry_of, entries_of}
use Rattle.flag_sync.specs.Said.{SaidRise}
use Rattle.snp_exchange.specs.declared.csnp.Piece.{Piece}
use Rattle.snp_exchange.specs.Pieces.{sent, filled}
use Rattle.snp_exchange.specs.PieceLists.{PieceSaid, said_sent, said_pieces, first_said}
use Rattle.snp_exchange.proofs.PieceLemmas.{length-entries, entries-append, sent-append, last-append, set-said, set-same}

-- ---- as the definitions cut them

said-filled : (level : Level) (rest here : List LspEntry) (start : ℕ) → said_sent level (said_pieces start here rest) ≡ filled level start (entries_of here) (entries_of rest)
said-filled level [] here start = refl
said-filled level (e ∷ rest) here start =
    cases (eqb (length here) 75) (said-filled level rest (e ∷ []) (last_id (entries_of here) + 1))
    (said-filled level rest (here ++ e ∷ []) start ∙ ap (λ (hs : List SnpEntry). filled level start hs (entries_of rest)) (entries-append here (e ∷ [])))
    ∙ ap (λ (n : ℕ). if eqb n 75 then full else more) (sym (length-entries here))
  where
    full : List Sent
    full = Csnp level start (last_id (entries_of here)) (entries_of here) ∷ filled level (last_id (entries_of here) + 1) (entry_of e ∷ []) (entries_of rest)

    more : List Sent
    more = filled level start (entries_of here ++ entry_of e ∷ []) (entries_of rest)

    piece : PieceSaid
    piece = record { start = start; end = last_id (entries_of here); entries = here }

    cases : (t : Bool)
        → said_sent level (said_pieces (last_id (entries_of here) + 1) (e ∷ []) rest) ≡ filled level (last_id (entries_of here) + 1) (entry_of e ∷ []) (entries_of rest)
        → said_sent level (said_pieces start (here ++ e ∷ []) rest) ≡ more
        → said_sent level (if t then piece ∷ said_pieces (last_id (entries_of here) + 1) (e ∷ []) rest else said_pieces start (here ++ e ∷ []) rest) ≡ (if t then full else more)
    cases true a b = ap (λ (xs : List Sent). Csnp level start (last_id (entries_of here)) (entries_of here) ∷ xs) a
    cases false a b = b

pub all-said : (level : Level) (keys : List LspEntry) → said_sent level (said_pieces 0 [] keys) ≡ csnps level 0 (pieces (suc (length keys)) (entries_of keys))
all-said level keys = said-filled level keys [] 0 ∙ set-said keys level

pub all-same : (level : Level) (b : Book) (keys : List LspEntry) → entries_of keys ≡ held_keys b → said_sent level (said_pieces 0 [] keys) ≡ csnp_set level b
all-same level b keys e = said-filled level keys [] 0 ∙ set-same b keys level e

-- ---- a piece more

chunk : (front here rest : List LspEntry) (start : ℕ) → length here + length front ≤ 75 → said_pieces start here (front ++ rest) ≡ said_pieces start (here ++ front) rest
chunk [] here rest start le = sym (ap (λ (hs : List LspEntry). said_pieces start hs rest) (append-nil here))
chunk (e ∷ front) here rest start le =
    let no : eqb (length here) 75 ≡ false = grind (arith, nat_tests, le) in
    let len = length-append here (e ∷ []) in
    rw no (chunk front (here ++ e ∷ []) rest start (omega (arith, len, le)) ∙ ap (λ (hs : List LspEntry). said_pieces start hs rest) (append_assoc here (e ∷ []) front))

pub piece-last : (keys front rest : List LspEntry) (start : ℕ) → front ++ rest ≡ keys → length front ≤ 75 → rest ≡ [] → said_pieces start [] keys ≡ (let p : PieceSaid = record { start = start; end = 2 ^ 64 - 1; entries = front } in p) ∷ []
piece-last keys front rest start split few none =
    ap (said_pieces start []) (sym split) ∙ chunk front [] rest start (omega (arith, few)) ∙ ap (said_pieces start front) none

pub piece-more : (keys front rest : List LspEntry) (e : LspEntry) (more : List LspEntry) (start end next : ℕ) → front ++ rest ≡ keys → length front ≡ 75 → rest ≡ e ∷ more → last_id (entries_of front) ≡ end → next ≡ end + 1 → said_pieces start [] keys ≡ (let p : PieceSaid = record { start = start; end = end; entries = front } in p) ∷ said_pieces next [] rest
piece-more keys front rest e more start end next split full some last behind =
    let yes : eqb (length front) 75 ≡ true = grind (arith, nat_tests, full) in
    ap (said_pieces start []) (sym split) ∙ chunk front [] rest start (omega (arith, full)) ∙ ap (said_pieces start front) some
    ∙ cut (eqb (length front) 75) yes ∙ sym (ap (λ (ks : List LspEntry). piece ∷ said_pieces next [] ks) some)
  where
    piece : PieceSaid
    piece = record { start = start; end = end; entries = front }

    cut : (t : Bool) → t ≡ true → (if t then (let p : PieceSaid = record { start = start; end = last_id (entries_of front); entries = front } in p) ∷ said_pieces (last_id (entries_of front) + 1) (e ∷ []) more else said_pieces start (front ++ e ∷ []) more) ≡ piece ∷ said_pieces next (e ∷ []) more
    cut true y = rw (last, behind) refl
    cut false y = absurd (grind (arith, y))

-- ---- keys that are passed

pub take-more : (keys rest : List LspEntry) (e : LspEntry) (more : List LspEntry) (count next : ℕ) → take count keys ++ rest ≡ keys → rest ≡ e ∷ more → length (take count keys) ≡ count → next ≡ count + 1 → take next keys ≡ take count keys ++ e ∷ []
take-more keys rest e more count next split some len behind =
    let xs = take count keys in
    let ys = xs ++ e ∷ [] in
    let long = length-append xs (e ∷ []) in
    let all : ys ++ more ≡ keys = append_assoc xs (e ∷ []) more ∙ sym (ap (λ (zs : List LspEntry). xs ++ zs) some) ∙ split in
    let n : next ≡ length ys = omega (arith, long, len, behind) in
    ap₂ (λ (k : ℕ) (zs : List LspEntry). take k zs) n (sym all) ∙ take-append_seam ys more

pub more-behind : (keys front rest : List LspEntry) (e : LspEntry) (more : List LspEntry) → front ++ rest ≡ keys → rest ≡ e ∷ more → (front ++ e ∷ []) ++ more ≡ keys
more-behind keys front rest e more split some = append_assoc front (e ∷ []) more ∙ sym (ap (λ (zs : List LspEntry). front ++ zs) some) ∙ split

pub last-said : (front : List LspEntry) (e : LspEntry) → last_id (entries_of (front ++ e ∷ [])) ≡ lsp_number e.id
last-said front e = ap last_id (entries-append front (e ∷ [])) ∙ last-append (entries_of front) (entry_of e)

-- the key that is the first of those that are left
pub record IsFirst (rest : List LspEntry) (next : LspId) : Type 0 where
  pub said : LspEntry
  pub more : List LspEntry
  pub is : rest ≡ said ∷ more
  pub same : said.id ≡ next

abbrev or_id : LspId → Option LspId → LspId
or_id id None = id
or_id id (Some found) = found

pub some-first : (rest : List LspEntry) (next : LspId) → Some next ≡ first_said rest → IsFirst rest next
some-first [] next e = absurd (grind (arith, e))
some-first (said ∷ more) next e = record { said = said; more = more; is = refl; same = sym (ap (or_id next) e) }

pub none-left : (rest : List LspEntry) → None ≡ first_said rest → rest ≡ []
none-left [] e = refl
none-left (said ∷ more) e = absurd (grind (arith, e))

-- ---- LSP IDs rise

rise-less : (a b : ℕ) (keys : List LspEntry) → a ≤ b → SaidRise b keys → SaidRise a keys
rise-less a b [] le r = tt
rise-less a b (e ∷ keys) le r = (let h = r.0 in omega (arith, h, le), r.1)

pub rise-behind : (least : ℕ) (front rest : List LspEntry) → SaidRise least (front ++ rest) → SaidRise least rest
rise-behind least [] rest r = r
rise-behind least (e ∷ front) rest r =
    rise-less least (lsp_number e.id + 1) rest (let h = r.0 in omega (arith, h)) (rise-behind (lsp_number e.id + 1) front rest r.1)

pub last-below : (least : ℕ) (front : List LspEntry) (e : LspEntry) (more : List LspEntry) → SaidRise least (front ++ e ∷ more) → 0 < length front → last_id (entries_of front) < lsp_number e.id
last-below least [] e more r some = absurd (omega (arith, some))
last-below least (x ∷ []) e more r some = let h = r.1.0 in omega (arith, h)
last-below least (x ∷ y ∷ front) e more r some = last-below (lsp_number x.id + 1) (y ∷ front) e more r.1 (omega arith)

-- ---- the set as a list

pub sent-more : (level : Level) (set new : List Piece) (p : Piece) (left rest : List PieceSaid) → new ≡ set ++ p ∷ [] → left ≡ (let s : PieceSaid = record { start = lsp_number p.start; end = lsp_number p.end; entries = p.entries } in s) ∷ rest → sent level new ++ said_sent level rest ≡ sent level set ++ said_sent level left
sent-more level set new p left rest e f =
    ap (λ (xs : List Sent). xs ++ said_sent level rest) (ap (sent level) e ∙ sent-append level set (p ∷ []))
    ∙ append_assoc (sent level set) (sent level (p ∷ [])) (said_sent level rest) ∙ sym (ap (λ (ps : List PieceSaid). sent level set ++ said_sent level ps) f)
