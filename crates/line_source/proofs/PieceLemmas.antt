-- The pieces that a reader takes of its buffer.
use Rattle.std.proofs.Common.{◌≡◌, ◌∙◌, ℕ, zero, suc, ◌+◌, ◌-◌, ◌<◌, ◌≤◌, ◌==◌, Bool, true, false, List, [], ◌∷◌, ◌++◌, length, take, drop, Option, Some, None, Result, Ok, refl, sym, ap, subst, arith}
use Rattle.std.specs.Borrow.{Bor}
use Rattle.std.specs.List.{slice_split, join_with_byte}
use Rattle.std.proofs.lemmas.List.{append_assoc, length-append, length-drop, length-take-le, take-append-drop, take_at}
use Rattle.std.proofs.lemmas.List.Splits.{join_with_byte-slice_split}
use Rattle.std.proofs.Math.Seq.{drop-append-add}
use Rattle.isis_base.specs.declared.memory.OutOfMemory.{OutOfMemory}
use Rattle.line_cuts.specs.Cuts.{parts_behind}
use Rattle.line_cuts.specs.Words.{lines_of}
use Rattle.line_source.specs.Lines.{IsUncut, IsTooLong}
use Rattle.line_source.proofs.CutLemmas.{first-uncut, uncut-more, at-mark, cut-back}

-- what is there from one place to another
abbrev pub span : ℕ → ℕ → List ℕ → List ℕ
span begin end items = take (end - begin) (drop begin items)

span-length : (begin end : ℕ) (items : List ℕ) → begin ≤ end → end ≤ length items → length (span begin end items) ≡ end - begin
span-length begin end items le fits =
    let n = length-drop begin items in
    length-take-le (end - begin) (drop begin items) (omega (arith, n, fits))

-- behind a mark, up to the end
behind-mark : (begin end : ℕ) (items front behind : List ℕ) → begin ≤ end → end ≤ length items → span begin end items ≡ front ++ 10 ∷ behind
    → span (end - length behind) end items ≡ behind
behind-mark begin end items front behind le fits is =
    let counted : length front + suc (length behind) ≡ end - begin =
    sym (length-append front (10 ∷ behind)) ∙ (ap length (sym is) ∙ span-length begin end items le fits) in
    let early : length (take begin items) ≡ begin = length-take-le begin items (omega (arith, le, fits)) in
    let rest : List ℕ = drop (end - begin) (drop begin items) in
    let whole : items ≡ take begin items ++ ((front ++ 10 ∷ behind) ++ rest) =
    sym (take-append-drop begin items)
    ∙ ap (λ (zs : List ℕ). take begin items ++ zs) (sym (take-append-drop (end - begin) (drop begin items)) ∙ ap (λ (zs : List ℕ). zs ++ rest) is) in
    let at : end - length behind ≡ length (take begin items) + (length front + 1) = omega (arith, counted, early, le) in
    let size : end - (end - length behind) ≡ length behind = omega (arith, counted, le) in
    let there : drop (end - length behind) items ≡ behind ++ rest =
    ap (λ (n : ℕ). drop n items) at
    ∙ (ap (drop (length (take begin items) + (length front + 1))) whole
    ∙ (drop-append-add (take begin items) ((front ++ 10 ∷ behind) ++ rest) (length front + 1)
    ∙ (ap (drop (length front + 1)) (append_assoc front (10 ∷ behind) rest)
    ∙ drop-append-add front (10 ∷ (behind ++ rest)) 1))) in
    ap (λ (n : ℕ). take n (drop (end - length behind) items)) size
    ∙ (ap (take (length behind)) there ∙ take_at behind rest (length behind) refl)

-- a text of one line is that line
one-line : (text line : List ℕ) → lines_of text ≡ line ∷ [] → text ≡ line
one-line text line e = sym (join_with_byte-slice_split 10 text) ∙ ap (join_with_byte 10) e

pub piece-marked : (begin end : ℕ) (items here front : List ℕ) (o : Option (Bor (List ℕ))) (behind : Bor (List ℕ)) → begin ≤ end → end ≤ length items
    → here ≡ span begin end items → slice_split (λ byte. byte == 10) here ≡ front ∷ parts_behind 10 o → o ≡ Some behind
    → (span begin end items ≡ front ++ 10 ∷ span (end - length behind.now) end items) × IsUncut front
piece-marked begin end items here front o behind le fits same parts is =
    let split : lines_of here ≡ front ∷ lines_of behind.now =
    parts ∙ ap (λ (b : Option (Bor (List ℕ))). front ∷ parts_behind 10 b) is in
    let cut : span begin end items ≡ front ++ 10 ∷ behind.now = sym same ∙ cut-back here front behind.now split in
    (cut ∙ ap (λ (zs : List ℕ). front ++ 10 ∷ zs) (sym (behind-mark begin end items front behind.now le fits cut)), first-uncut here front (lines_of behind.now) split)

pub piece-whole : (begin end : ℕ) (items here front : List ℕ) (o : Option (Bor (List ℕ)))
    → here ≡ span begin end items → slice_split (λ byte. byte == 10) here ≡ front ∷ parts_behind 10 o → o ≡ None
    → (front ≡ span begin end items) × IsUncut (span begin end items)
piece-whole begin end items here front o same parts is =
    let split : lines_of here ≡ front ∷ [] = parts ∙ ap (λ (b : Option (Bor (List ℕ))). front ∷ parts_behind 10 b) is in
    let one : here ≡ front = one-line here front split in
    (sym one ∙ same, subst IsUncut (sym one ∙ same) (first-uncut here front [] split))

pub span-none : (place : ℕ) (items : List ℕ) → span place place items ≡ []
span-none place items = let none : place - place ≡ 0 = omega arith in ap (λ (n : ℕ). take n (drop place items)) none

no-length : (xs : List ℕ) → length xs ≡ 0 → xs ≡ []
no-length [] e = refl
no-length (x ∷ xs) e = absurd (omega (arith, e))

-- an empty span is empty in other items too
pub span-empty : (begin end : ℕ) (items others : List ℕ) → begin ≤ end → end ≤ length items → span begin end items ≡ [] → span begin end others ≡ []
span-empty begin end items others le fits e =
    let none : end - begin ≡ 0 = sym (span-length begin end items le fits) ∙ ap length e in
    ap (λ (n : ℕ). take n (drop begin others)) none

-- ---- a turn of the reader

abbrev IsMarked : (line pending line' pending' : List ℕ) → Type 0
IsMarked line pending line' pending' = (front : List ℕ) × (line' ≡ line ++ front) × (pending ≡ front ++ 10 ∷ pending') × IsUncut front

abbrev IsAdded : (line pending line' pending' : List ℕ) → Type 0
IsAdded line pending line' pending' = (line' ≡ line ++ pending) × (pending' ≡ []) × IsUncut pending

pub turn-line : (all line pending line' pending' : List ℕ) → IsUncut line → all ≡ line ++ pending → IsMarked line pending line' pending'
    → lines_of all ≡ line' ∷ lines_of pending'
turn-line all line pending line' pending' uncut is (front, new, old, free) =
    ap lines_of (is ∙ (ap (λ (zs : List ℕ). line ++ zs) old ∙ sym (append_assoc line front (10 ∷ pending'))))
    ∙ (at-mark (line ++ front) pending' (uncut-more line front uncut free) ∙ ap (λ (zs : List ℕ). zs ∷ lines_of pending') (sym new))

pub turn-more : (all line pending line' pending' : List ℕ) → IsUncut line → all ≡ line ++ pending → IsAdded line pending line' pending'
    → (all ≡ line') × IsUncut line'
turn-more all line pending line' pending' uncut is (new, none, free) =
    (is ∙ sym new, subst IsUncut (sym new) (uncut-more line pending uncut free))

pub turn-rest : (all line pending line' pending' : List ℕ) → IsUncut line → all ≡ line ++ pending → IsAdded line pending line' pending'
    → lines_of all ≡ line' ∷ []
turn-rest all line pending line' pending' uncut is added =
    let more = turn-more all line pending line' pending' uncut is added in ap lines_of more.0 ∙ more.1

pub turn-long : (all line pending line' pending' : List ℕ) (ended : Bool) → IsUncut line → all ≡ line ++ pending
    → (◌≡◌ {A = Result Bool OutOfMemory} (Ok ended) (Ok true) → IsMarked line pending line' pending')
    → (◌≡◌ {A = Result Bool OutOfMemory} (Ok ended) (Ok false) → IsAdded line pending line' pending')
    → 16777216 < length line' → IsTooLong all
turn-long all line pending line' pending' true uncut is marked added long =
    record { line = line'; others = lines_of pending'; first = turn-line all line pending line' pending' uncut is (marked refl); long = long }
turn-long all line pending line' pending' false uncut is marked added long =
    record { line = line'; others = []; first = turn-rest all line pending line' pending' uncut is (added refl); long = long }

take-less : (count size : ℕ) (items : List ℕ) → count ≤ size → take count (take size items) ≡ take count items
take-less zero size items le = refl
take-less (suc count) zero items le = absurd (omega (arith, le))
take-less (suc count) (suc size) [] le = refl
take-less (suc count) (suc size) (x ∷ items) le = ap (λ (zs : List ℕ). x ∷ zs) (take-less count size items (omega (arith, le)))

take-front : (count : ℕ) (into items : List ℕ) → count ≤ length into → take count (into ++ items) ≡ take count into
take-front zero into items le = refl
take-front (suc count) [] items le = absurd (omega (arith, le))
take-front (suc count) (x ∷ into) items le = ap (λ (zs : List ℕ). x ∷ zs) (take-front count into items (omega (arith, le)))

-- what was read stands first in the buffer
pub read-span : (into items : List ℕ) (count size : ℕ) → count ≤ length into → count ≤ size → take (count - 0) (take size (into ++ items)) ≡ take count into
read-span into items count size fits room =
    let all : count - 0 ≡ count = omega arith in
    ap (λ (n : ℕ). take n (take size (into ++ items))) all
    ∙ (take-less count size (into ++ items) room ∙ take-front count into items fits)
