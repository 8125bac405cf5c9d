-- What is taken, written and left over several calls.
use Rattle.std.proofs.Common.{◌≡◌, ℕ, zero, suc, ◌+◌, ◌-◌, ◌<◌, ◌≤◌, List, [], ◌∷◌, ◌++◌, length, take, drop, refl, sym, ap, ◌∙◌, arith, append_assoc}
use Rattle.std.proofs.lemmas.List.{take-append-drop, length-append, length-drop, length-take, length-take-le, take_all, take_at, take_rest, append-nil}
use Rattle.isis_edge.specs.Told.{Took, Wrote, WrotePrefix}

-- nothing is written
pub Wrote-none : (a : List ℕ) → Wrote a a []
Wrote-none a = sym (append-nil a)

-- what is written in two calls
pub Wrote-more : (a b c xs ys : List ℕ) → Wrote a b xs → Wrote b c ys → Wrote a c (xs ++ ys)
Wrote-more a b c xs ys p q = q ∙ ap (λ zs. zs ++ ys) p ∙ append_assoc a xs ys

-- nothing is taken
pub Took-none : (a : List ℕ) → Took a a []
Took-none = Wrote-none

-- what is taken in two calls
pub Took-more : (a b c xs ys : List ℕ) → Took a b xs → Took b c ys → Took a c (xs ++ ys)
Took-more = Wrote-more

-- part of a piece is written, and this is the rest
pub record IsUnderway (piece rest : List ℕ) (before now : List ℕ) : Type 0 where
  pub front : List ℕ
  pub joined : front ++ rest ≡ piece
  pub written : Wrote before now front

pub underway_none : (piece : List ℕ) (before : List ℕ) → IsUnderway piece piece before before
underway_none piece before = record { front = []; joined = refl; written = Wrote-none before }

pub underway_more : (piece rest : List ℕ) (before mid now : List ℕ) (count : ℕ) → IsUnderway piece rest before mid → Wrote mid now (take count rest) → IsUnderway piece (drop count rest) before now
underway_more piece rest before mid now count u w = record {
  front = u.front ++ take count rest;
  joined = append_assoc u.front (take count rest) (drop count rest) ∙ ap (λ zs. u.front ++ zs) (take-append-drop count rest) ∙ u.joined;
  written = Wrote-more before mid now u.front (take count rest) u.written w;
}

pub underway_all : (piece : List ℕ) (before now : List ℕ) → IsUnderway piece [] before now → Wrote before now piece
underway_all piece before now u = rw (← (sym (append-nil u.front) ∙ u.joined)) u.written

-- as it stands after `&rest[count..]`
pub underway_rest : (piece rest : List ℕ) (before mid now : List ℕ) (count : ℕ) → IsUnderway piece rest before mid → Wrote mid now (take count rest) → IsUnderway piece (take (length rest - count) (drop count rest)) before now
underway_rest piece rest before mid now count u w =
    rw (take_rest rest count) (underway_more piece rest before mid now count u w)

-- nothing more is written by a call that fails
pub Wrote-stays : (a b c xs : List ℕ) → Wrote a b xs → c ≡ b → Wrote a c xs
Wrote-stays a b c xs p q = q ∙ p

-- where something is left, a prefix was written, and not all
pub underway_prefix : (piece rest : List ℕ) (before mid now : List ℕ) → IsUnderway piece rest before mid → 0 < length rest → now ≡ mid → (count : ℕ) × (count < length piece) × Wrote before now (take count piece)
underway_prefix piece rest before mid now u left s =
    let whole = ap length u.joined in
    let parts = length-append u.front rest in
    let front : take (length u.front) piece ≡ u.front = rw (← u.joined) (take_at u.front rest (length u.front) refl) in
    (length u.front, omega arith, rw front (Wrote-stays before mid now u.front u.written s))

-- what was taken before and by the last read, where it is no more than the limit and one
pub taken_within : (before mid now : List ℕ) (octets buffer : List ℕ) (count limit : ℕ) → Took before mid octets → Took mid now (take count buffer) → length octets + count ≤ limit + 1 → (taken : List ℕ) × (length taken ≤ limit + 1) × Took before now taken
taken_within before mid now octets buffer count limit first last few =
    let part = length-take count buffer in
    let both = length-append octets (take count buffer) in
    (octets ++ take count buffer, omega arith, Took-more before mid now octets (take count buffer) first last)

-- the same, where it is one more than the limit
pub taken_beyond : (before mid now octets buffer : List ℕ) (count limit : ℕ) → Took before mid octets → Took mid now (take count buffer) → count ≤ length buffer → limit < length octets + count
    → (taken : List ℕ) × (limit < length taken) × Took before now taken
taken_beyond before mid now octets buffer count limit first last fits more =
    let part = length-take-le count buffer fits in
    let both = length-append octets (take count buffer) in
    (octets ++ take count buffer, omega arith, Took-more before mid now octets (take count buffer) first last)

-- what is taken has one length
pub taken_once : (before now one two : List ℕ) → Took before now one → Took before now two → length one ≡ length two
taken_once before now one two p q =
    let first = ap length p in
    let second = ap length q in
    let a = length-append before one in
    let b = length-append before two in
    omega arith

-- the first of a list, and so many more
pub take-more : (place count : ℕ) (xs : List ℕ) → take (place + count) xs ≡ take place xs ++ take count (drop place xs)
take-more zero count xs = let on : zero + count ≡ count = omega arith in ap (λ n. take n xs) on
take-more (suc place) count [] = take_all (suc place + count) [] (omega arith) ∙ sym (take_all count [] (omega arith))
take-more (suc place) count (x ∷ xs) = let on : suc place + count ≡ suc (place + count) = omega arith in ap (λ n. take n (x ∷ xs)) on ∙ ap (λ (ys : List ℕ). x ∷ ys) (take-more place count xs)

-- the octets at a place, copied to the front of a buffer
pub copied_front : (octets buffer copied : List ℕ) (place count : ℕ) → 0 < count → count ≤ length buffer → count ≤ length octets - place → copied ≡ take count (drop place octets) → (0 < count) × (count ≤ length (copied ++ drop count buffer)) × Took (take place octets) (take (place + count) octets) (take count (copied ++ drop count buffer))
copied_front octets buffer copied place count some fits left same =
    let kept : length (drop place octets) ≡ length octets - place = length-drop place octets in
    let size : length copied ≡ count = ap length same ∙ length-take-le count (drop place octets) (omega arith) in
    let front = take_at copied (drop count buffer) count size in
    let both = length-append copied (drop count buffer) in
    (some, omega arith, take-more place count octets ∙ ap (λ (xs : List ℕ). take place octets ++ xs) (sym same ∙ sym front))

-- ---- texts

-- what is written of a piece is the first of it
pub WrotePrefix-from_count : (before now : List ℕ) (piece : List ℕ) (count : ℕ) → Wrote before now (take count piece) → WrotePrefix before now piece
WrotePrefix-from_count before now piece count w = record {
  written = take count piece;
  rest = drop count piece;
  wrote = w;
  joined = take-append-drop count piece;
}

-- a prefix of what waits, behind what was written
pub WrotePrefix-later : (whole page rest : List ℕ) (before mid now : List ℕ) → IsUnderway whole (page ++ rest) before mid → WrotePrefix mid now page → WrotePrefix before now whole
WrotePrefix-later whole page rest before mid now u w = record {
  written = u.front ++ w.written;
  rest = w.rest ++ rest;
  wrote = Wrote-more before mid now u.front w.written u.written w.wrote;
  joined = append_assoc u.front w.written (w.rest ++ rest) ∙ ap (λ (xs : List ℕ). u.front ++ xs) (sym (append_assoc w.written w.rest rest) ∙ ap (λ (xs : List ℕ). xs ++ rest) w.joined) ∙ u.joined;
}

-- what was written so far is the first of the whole
pub WrotePrefix-underway : (whole left : List ℕ) (before now : List ℕ) → IsUnderway whole left before now → WrotePrefix before now whole
WrotePrefix-underway whole left before now u = record { written = u.front; rest = left; wrote = u.written; joined = u.joined }

-- what waits is written
pub underway_piece : (whole page rest : List ℕ) (before mid now : List ℕ) → IsUnderway whole (page ++ rest) before mid → Wrote mid now page → IsUnderway whole rest before now
underway_piece whole page rest before mid now u w = record {
  front = u.front ++ page;
  joined = append_assoc u.front page rest ∙ u.joined;
  written = Wrote-more before mid now u.front page u.written w;
}

-- what waited and was to come is what waits and is to come now
pub underway_same : (whole one two : List ℕ) (before now : List ℕ) → two ≡ one → IsUnderway whole one before now → IsUnderway whole two before now
underway_same whole one two before now e u = rw e u

-- the front of what waits is written
pub underway_front : (whole old front page rest : List ℕ) (before mid now : List ℕ) → front ++ page ≡ old → IsUnderway whole (old ++ rest) before mid → Wrote mid now front → IsUnderway whole (page ++ rest) before now
underway_front whole old front page rest before mid now e u w =
    underway_piece whole front (page ++ rest) before mid now (underway_same whole (old ++ rest) (front ++ (page ++ rest)) before mid (sym (append_assoc front page rest) ∙ ap (λ (xs : List ℕ). xs ++ rest) e) u) w
