-- Lines that are read one after another.
use Rattle.std.proofs.Common.{◌≡◌, ℕ, ◌+◌, ◌≤◌, ◌<◌, ◌==◌, if◌then◌else◌, Bool, true, false, List, [], ◌∷◌, ◌++◌, length, Result, Ok, Err, inl, inr, refl, sym, ap, subst, arith, Option, Some, None, ◌⊎◌, ◌∙◌}
use Rattle.std.specs.Prelude.{nat_lt}
use Rattle.std.specs.List.{count_by}
use Rattle.std.proofs.lemmas.Bool.Decides.{nat_tests}
use Rattle.std.proofs.lemmas.List.Sums.{sum_by-cons}
use Rattle.hex.specs.declared.error.FromHexError.{FromHexError}
use Rattle.hex.specs.Hex.{decode_of}
use Rattle.isis_base.specs.declared.identifiers.LspId.{LspId}
use Rattle.isis_base.specs.Identifiers.{lsp_number}
use Rattle.isis_pdu.specs.declared.fault.PduFault.{PduFault}
use Rattle.isis_pdu.specs.Views.{PduView}
use Rattle.isis_pdu.specs.Decoded.{decoded}
use Rattle.lsp_store.specs.declared.entry.Entry.{Entry}
use Rattle.lsp_store.specs.Maps.{pair_number, find, put}
use Rattle.ipv6_reach.specs.declared.took.Took.{Took}
use Rattle.ipv6_reach.specs.declared.took.Took.TheVariants as took
use Rattle.ipv6_reach.specs.declared.head.Head.{Head}
use Rattle.ipv6_reach.specs.Captured.{CapturedOf, head_of, took_of, KeepsBy, IsFullFor, IsFullBy}
use Rattle.ipv6_reach.specs.Taken.{IsTake, AreTaken}
use Rattle.capture_text.specs.declared.read.Read.{Read}
use Rattle.capture_text.specs.Reading.{IsSkipped, AreOctetsRead, IsHexRead, IsLineRead, AreRead, is_filled, octets_by, octets_in}

-- a line, and then those behind it
pub next-read : (old next end : Read) (line : List ℕ) (behind parts : List (List ℕ)) → parts ≡ line ∷ behind → IsLineRead old line next → AreRead next behind end → AreRead old parts end
next-read old next end line behind parts e one others =
    subst (λ (lines : List (List ℕ)). AreRead old lines end) (sym e) (next, one, others)

-- no line
pub none-read : (old : Read) (parts : List (List ℕ)) → parts ≡ [] → AreRead old parts old
none-read old parts e = subst (λ (lines : List (List ℕ)). AreRead old lines old) (sym e) refl

-- ---- what becomes of octets

-- whether octets are to be kept
data Choice (t : Took) : Type 0 where
  keeps : t ≡ took.Kept → Choice t
  leaves : (t ≡ took.Kept → ⊥) → Choice t

choice : (t : Took) → Choice t
choice (took.Pdu fault) = leaves (λ e. cc)
choice took.NotLsp = leaves (λ e. cc)
choice took.Zero = leaves (λ e. cc)
choice took.Checksum = leaves (λ e. cc)
choice took.NotNewer = leaves (λ e. cc)
choice took.Kept = keeps refl

-- whether there is no room for them
by-find : (captured : CapturedOf) (pdu : PduView) (head : Head) (found : Option Entry) → find captured.entries (lsp_number head.id) ≡ found → (many : Bool) → nat_lt (length captured.entries) 65536 ≡ many → IsFullFor captured head ⊎ (IsFullFor captured head → ⊥)
by-find captured pdu head (Some entry) e many k = inr (λ full. absurd (some-none entry (sym e ∙ full.0)))
  where
    some-none : (entry : Entry) → Some entry ≡ None → ⊥
    some-none entry e = cc
by-find captured pdu head None e true k = inr (λ full. let less : length captured.entries < 65536 = grind (arith, nat_tests, k) in absurd (omega (arith, less, full.1)))
by-find captured pdu head None e false k = inl (e, grind (arith, nat_tests, k))

by-head : (captured : CapturedOf) (pdu : PduView) (n : ℕ) (head : Option Head) → head_of pdu ≡ head → IsFullBy captured (Ok (pdu, n)) ⊎ (IsFullBy captured (Ok (pdu, n)) → ⊥)
by-head captured pdu n None e = inr (λ full. absurd (some-none full.0 (sym full.1 ∙ e)))
  where
    some-none : (head : Head) → Some head ≡ None → ⊥
    some-none head e = cc
by-head captured pdu n (Some head) e =
    elim (by-find captured pdu head (find captured.entries (lsp_number head.id)) refl (nat_lt (length captured.entries) 65536) refl) [
      | inl full ↦ inl (head, e, full)
      | inr room ↦ inr (λ full. room (subst (λ (h : Head). IsFullFor captured h) (one full.0 head (sym full.1 ∙ e)) full.2))
    ]
  where
    one : (a b : Head) → Some a ≡ Some b → a ≡ b
    one a b e = cc

fullness : (captured : CapturedOf) (r : Result (PduView × ℕ) PduFault) → IsFullBy captured r ⊎ (IsFullBy captured r → ⊥)
fullness captured (Err fault) = inr (λ full. full)
fullness captured (Ok found) = by-head captured found.0 found.1 (head_of found.0) refl

-- ---- counts

-- a line more is counted once
one-counted : (old new : Read) (octets : List ℕ) → AreOctetsRead old octets new → new.kept + new.skipped ≡ old.kept + old.skipped + 1
one-counted old new octets read = by (choice (took_of old.capture octets))
  where
    skipped : IsSkipped old new → new.kept + new.skipped ≡ old.kept + old.skipped + 1
    skipped e = let k = ap (λ (r : Read). r.kept) e in let s = ap (λ (r : Read). r.skipped) e in omega (arith, k, s)

    by : Choice (took_of old.capture octets) → new.kept + new.skipped ≡ old.kept + old.skipped + 1
    by (keeps e) =
        elim (fullness old.capture (decoded octets)) [
          | inl full ↦ skipped (read.full full)
          | inr room ↦ let kept = read.kept e room in omega (arith, kept.kept, kept.skipped)
        ]
    by (leaves isnt) = skipped (read.other isnt)

hex-counted : (old new : Read) (r : Result (List ℕ) FromHexError) → IsHexRead old r new → new.kept + new.skipped ≡ old.kept + old.skipped + 1
hex-counted old new (Ok octets) read = one-counted old new octets read
hex-counted old new (Err error) e =
    let k = ap (λ (r : Read). r.kept) e in
    let s = ap (λ (r : Read). r.skipped) e in
    omega (arith, k, s)

abbrev filled_one : List ℕ → ℕ
filled_one line = if is_filled line then 1 else 0

counted-from : (lines : List (List ℕ)) (old end : Read) → AreRead old lines end → end.kept + end.skipped ≡ old.kept + old.skipped + count_by is_filled lines
counted-from [] old end e =
    let k = ap (λ (r : Read). r.kept) e in
    let s = ap (λ (r : Read). r.skipped) e in
    omega (arith, k, s)
counted-from ([] ∷ lines) old end (next, e, others) =
    let k = ap (λ (r : Read). r.kept) e in
    let s = ap (λ (r : Read). r.skipped) e in
    let rest = counted-from lines next end others in
    let same : count_by is_filled ([] ∷ lines) ≡ 0 + count_by is_filled lines = sum_by-cons filled_one [] lines in
    omega (arith, k, s, rest, same)
counted-from ((digit ∷ digits) ∷ lines) old end (next, one, others) =
    let first = hex-counted old next (decode_of (digit ∷ digits)) one in
    let rest = counted-from lines next end others in
    let more : count_by is_filled ((digit ∷ digits) ∷ lines) ≡ 1 + count_by is_filled lines = sum_by-cons filled_one (digit ∷ digits) lines in
    omega (arith, first, rest, more)

-- each line that isn't empty is counted once
pub counted : (lines : List (List ℕ)) (old end : Read) → AreRead old lines end → old.kept + old.skipped ≡ 0 → end.kept + end.skipped ≡ count_by is_filled lines
counted lines old end read none = let all = counted-from lines old end read in omega (arith, all, none)

-- ---- what is held

-- a put takes nothing away
put-longer : (entries : List (LspId × Entry)) (id : LspId) (entry : Entry) → length entries ≤ length (put entries id entry)
put-longer [] id entry = omega arith
put-longer (pair ∷ entries) id entry = go (pair_number pair == lsp_number id) refl (nat_lt (lsp_number id) (pair_number pair)) refl (put-longer entries id entry)
  where
    go : (p : Bool) → (pair_number pair == lsp_number id) ≡ p → (q : Bool) → nat_lt (lsp_number id) (pair_number pair) ≡ q → length entries ≤ length (put entries id entry) → length (pair ∷ entries) ≤ length (put (pair ∷ entries) id entry)
    go true e q f rest = rw e (omega arith)
    go false e true f rest = rw (e, f) (omega arith)
    go false e false f rest = rw (e, f) (omega (arith, rest))

-- nor does an LSP that is kept
keeps-longer : (old new : CapturedOf) (octets : List ℕ) (r : Result (PduView × ℕ) PduFault) → KeepsBy old new octets r → length old.entries ≤ length new.entries
keeps-longer old new octets (Err fault) h = absurd h
keeps-longer old new octets (Ok found) (head, entry, is, of, e) =
    let longer = put-longer old.entries head.id entry in
    let same = ap (λ (c : CapturedOf). length c.entries) e in
    omega (arith, longer, same)

-- no room is wanted where there are fewer than 65,536
not-full : (captured : CapturedOf) (r : Result (PduView × ℕ) PduFault) → length captured.entries < 65536 → IsFullBy captured r → ⊥
not-full captured (Err fault) small full = full
not-full captured (Ok found) small (head, is, full) = absurd (omega (arith, small, full.1))

-- octets that are read are taken, where there is room in the end
one-taken : (old new : Read) (octets : List ℕ) → AreOctetsRead old octets new → length new.capture.entries < 65536 → IsTake old.capture octets new.capture × (length old.capture.entries ≤ length new.capture.entries)
one-taken old new octets read small = by (choice (took_of old.capture octets))
  where
    same : IsSkipped old new → new.capture ≡ old.capture
    same e = ap (λ (r : Read). r.capture) e

    as-long : IsSkipped old new → length old.capture.entries ≤ length new.capture.entries
    as-long e = let l = ap (λ (c : CapturedOf). length c.entries) (same e) in omega (arith, l)

    by : Choice (took_of old.capture octets) → IsTake old.capture octets new.capture × (length old.capture.entries ≤ length new.capture.entries)
    by (keeps e) =
        let kept = read.kept e (λ full. not-full old.capture (decoded octets) (let l = as-long (read.full full) in omega (arith, l, small)) full) in
        (((λ _. kept.capture), (λ isnt. absurd (isnt e))), keeps-longer old.capture new.capture octets (decoded octets) kept.capture)
    by (leaves isnt) = (((λ e. absurd (isnt e)), (λ _. same (read.other isnt))), as-long (read.other isnt))

-- lines that are read are taken, where there is room in the end
pub taken : (lines : List (List ℕ)) (old end : Read) → AreRead old lines end → length end.capture.entries < 65536 → (length old.capture.entries ≤ length end.capture.entries) × AreTaken old.capture (octets_in lines) end.capture
taken [] old end e small =
    let same = ap (λ (r : Read). r.capture) e in
    (omega (arith, ap (λ (c : CapturedOf). length c.entries) same), same)
taken ([] ∷ lines) old end (next, e, others) small =
    let rest = taken lines next end others small in
    subst (λ (c : CapturedOf). (length c.entries ≤ length end.capture.entries) × AreTaken c (octets_in lines) end.capture) (ap (λ (r : Read). r.capture) e) rest
taken ((digit ∷ digits) ∷ lines) old end (next, one, others) small = by (decode_of (digit ∷ digits)) one (taken lines next end others small)
  where
    by : (r : Result (List ℕ) FromHexError) → IsHexRead old r next → (length next.capture.entries ≤ length end.capture.entries) × AreTaken next.capture (octets_in lines) end.capture
        → (length old.capture.entries ≤ length end.capture.entries) × AreTaken old.capture (octets_by r ++ octets_in lines) end.capture
    by (Ok octets) read rest =
        let first = one-taken old next octets read (omega (arith, rest.0, small)) in
        (omega (arith, first.1, rest.0), (next.capture, first.0, rest.1))
    by (Err error) e rest =
        subst (λ (c : CapturedOf). (length c.entries ≤ length end.capture.entries) × AreTaken c (octets_in lines) end.capture) (ap (λ (r : Read). r.capture) e) rest
