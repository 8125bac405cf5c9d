-- A good split is the one that the router's model makes.
use Rattle.std.proofs.Common.{◌≡◌, ℕ, ◌+◌, ◌<◌, ◌≤◌, ◌==◌, nat_lt, ◌&&◌, ◌||◌, nat_le, Bool, true, false, List, [], ◌∷◌, ◌++◌, length, Some, None, if◌then◌else◌, refl, sym, ap, ◌∙◌, subst, arith, append_assoc, append-nil, length-append}
use Rattle.std.proofs.lemmas.Bool.Decides.{nat_tests}
use Rattle.std.specs.List.{AllByRecursion}
use Rattle.model_router.specs.Splits.{Item, Draft, Split, whole, joins, begins, holds_more, with_item, filled, split}
use Rattle.model_router.specs.SplitLaws.{IsSmall, value_of}
use Rattle.lsp_fragments.specs.Fits.{put_all}
use Rattle.lsp_fragments.specs.GoodSplits.{HasNoPlace, IsFragment, Bare, WithTlv, AreFragments, Single, Another, IsGoodSplit}
use Rattle.lsp_fragments.proofs.FitLemmas.{put_all-append, filled-all, filled-append}
use Rattle.lsp_fragments.proofs.GoodLemmas.{whole-tlv, whole-length}

-- ---- one entry

if-true : {A : Type 0} (t : Bool) (x y : A) → t ≡ true → (if t then x else y) ≡ x
if-true true x y h = refl
if-true false x y h = absurd (cc)

if-false : {A : Type 0} (t : Bool) (x y : A) → t ≡ false → (if t then x else y) ≡ y
if-false false x y h = refl
if-false true x y h = absurd (cc)

or-first : (a b c : Bool) → a ≡ true → (a || b || c) ≡ true
or-first true b c h = refl
or-first false b c h = absurd (cc)

or-second : (a b c : Bool) → b ≡ true → (a || b || c) ≡ true
or-second true b c h = refl
or-second false true c h = refl
or-second false false c h = absurd (cc)

or-third : (a b c : Bool) → c ≡ true → (a || b || c) ≡ true
or-third true b c h = refl
or-third false true c h = refl
or-third false false c h = h

or-none : (a b c : Bool) → a ≡ false → b ≡ false → c ≡ false → (a || b || c) ≡ false
or-none false false c x y z = z
or-none false true c x y z = absurd (cc)
or-none true b c x y z = absurd (cc)

put-one : (room : ℕ) (d e : Draft) (i : Item) (items : List Item) → holds_more room d i ≡ true → with_item room d i ≡ e → put_all room d (i ∷ items) ≡ put_all room e items
put-one room d e i items held same =
    if-true (holds_more room d i) (put_all room (with_item room d i) items) None held ∙ ap (λ (t : Draft). put_all room t items) same

with-join : (room : ℕ) (d : Draft) (i : Item) → joins room d i ≡ true → with_item room d i ≡ record d { value = d.value ++ i.octets }
unfolding with_item
with-join room d i j = if-true (joins room d i) _ _ j

with-begin : (room : ℕ) (d : Draft) (i : Item) → joins room d i ≡ false → begins room d i ≡ true → with_item room d i ≡ record { done = d.done; closed = whole d; code = i.code; value = i.octets }
unfolding with_item
with-begin room d i j b = if-false (joins room d i) _ _ j ∙ if-true (begins room d i) _ _ b

with-next : (room : ℕ) (d : Draft) (i : Item) → joins room d i ≡ false → begins room d i ≡ false → with_item room d i ≡ record { done = d.done ++ whole d ∷ []; closed = []; code = i.code; value = i.octets }
unfolding with_item
with-next room d i j b = if-false (joins room d i) _ _ j ∙ if-false (begins room d i) _ _ b

-- ---- one TLV

tlv-put : (room : ℕ) (d : Draft) (items : List Item) → 0 < d.code → AllByRecursion (λ (i : Item). i.code ≡ d.code) items → length d.value + length (value_of items) ≤ 255 → length d.closed + 2 + length d.value + length (value_of items) ≤ room
    → put_all room d items ≡ Some (record d { value = d.value ++ value_of items })
tlv-put room d [] some coded short fits = ap (λ (v : List ℕ). Some (record d { value = v })) (sym (append-nil d.value))
tlv-put room d (i ∷ items) some coded short fits =
    let len = whole-length d some in
    let code : d.code ≡ i.code = sym coded.0 in
    let both : length (i.octets ++ value_of items) ≡ length i.octets + length (value_of items) = length-append i.octets (value_of items) in
    let count : length (d.value ++ i.octets) ≡ length d.value + length i.octets = length-append d.value i.octets in
    let small : length d.value + length i.octets ≤ 255 = omega (arith, short, both) in
    let left : length (whole d) + length i.octets ≤ room = omega (arith, fits, both, len) in
    let j : joins room d i ≡ true = grind (arith, nat_tests, code, small, left) in
    put-one room d (record d { value = d.value ++ i.octets }) i items (or-first (joins room d i) (begins room d i) (nat_lt (length d.done) 255) j) (with-join room d i j)
    ∙ tlv-put room (record d { value = d.value ++ i.octets }) items some coded.1 (omega (arith, short, both, count)) (omega (arith, fits, both, count))
    ∙ ap (λ (v : List ℕ). Some (record d { value = v })) (append_assoc d.value i.octets (value_of items))

-- ---- one fragment

-- a draft that entries make of another, and what it shows
record Makes (room : ℕ) (start : Draft) (items : List Item) (done : List (List ℕ)) (octets : List ℕ) (code size : ℕ) : Type 0 where
  draft : Draft
  put : put_all room start items ≡ Some draft
  dones : draft.done ≡ done
  all : whole draft ≡ octets
  codes : draft.code ≡ code
  sizes : length draft.value ≡ size

abbrev blank : List (List ℕ) → List ℕ → Draft
blank done first = record { done = done; closed = first; code = 0; value = [] }

-- no TLV joins an entry that begins one
no-join : (room : ℕ) (d : Draft) (i : Item) → (d.code ≡ i.code → 255 < length d.value + length i.octets) → joins room d i ≡ false
no-join room d i late = choose-code (d.code == i.code) (nat_le (length d.value + length i.octets) 255) (nat_le (length (whole d) + length i.octets) room) (λ e. let code : d.code ≡ i.code = grind (arith, nat_tests, e) in let over = late code in grind (arith, nat_tests, over))
  where
    choose-code : (a b c : Bool) → (a ≡ true → b ≡ false) → (a && b && c) ≡ false
    choose-code false b c h = refl
    choose-code true false c h = refl
    choose-code true true c h = absurd (let x = h refl in cc)

fragment-put : (room : ℕ) (first octets : List ℕ) (code size : ℕ) (items : List Item) (done : List (List ℕ)) → IsFragment room first octets code size items → Makes room (blank done first) items done octets code size
fragment-put room first octets code size items done Bare = record { draft = blank done first; put = refl; dones = refl; all = refl; codes = refl; sizes = refl }
fragment-put room first octets code size items done (WithTlv before was had others f next i more tlv late fits) =
    let m = fragment-put room first before was had others done f in
    let d = m.draft in
    let code : i.code ≡ next = tlv.coded.0 in
    let dcode = m.codes in
    let dsize = m.sizes in
    let dlen : length (whole d) ≡ length before = ap length m.all in
    let both : length (i.octets ++ value_of more) ≡ length i.octets + length (value_of more) = length-append i.octets (value_of more) in
    let short = tlv.short in
    let some : 0 < i.code = (let s = tlv.some in omega (arith, s, code)) in
    let j : joins room d i ≡ false = no-join room d i (λ e. let over = late (sym dcode ∙ e ∙ code) in omega (arith, over, dsize)) in
    let b : begins room d i ≡ true = (let h : length (whole d) + 2 + length i.octets ≤ room = omega (arith, fits, both, dlen) in grind (arith, nat_tests, h)) in
    let begun : Draft = record { done = d.done; closed = whole d; code = i.code; value = i.octets } in
    let last : Draft = record { done = d.done; closed = whole d; code = i.code; value = i.octets ++ value_of more } in
    record {
      draft = last;
      put = put_all-append room (blank done first) d others (i ∷ more) m.put
          ∙ put-one room d begun i more (or-second (joins room d i) (begins room d i) (nat_lt (length d.done) 255) b) (with-begin room d i j b)
          ∙ tlv-put room begun more some (coded-as (sym code) more tlv.coded.1) (omega (arith, short, both)) (omega (arith, fits, both, dlen));
      dones = m.dones;
      all = whole-tlv last some ∙ ap (λ (xs : List ℕ). xs ++ i.code ∷ length (i.octets ++ value_of more) ∷ (i.octets ++ value_of more)) m.all
          ∙ ap (λ (n : ℕ). before ++ n ∷ length (i.octets ++ value_of more) ∷ (i.octets ++ value_of more)) code;
      codes = code;
      sizes = refl;
    }
  where
    coded-as : {m n : ℕ} → m ≡ n → (xs : List Item) → AllByRecursion (λ (x : Item). x.code ≡ m) xs → AllByRecursion (λ (x : Item). x.code ≡ n) xs
    coded-as e [] all = tt
    coded-as e (x ∷ xs) all = (all.0 ∙ e, coded-as e xs all.1)

-- ---- all fragments

all-right : {X : Type 0} → (P : X → Type 0) (xs ys : List X) → AllByRecursion P (xs ++ ys) → AllByRecursion P ys
all-right P [] ys a = a
all-right P (x ∷ xs) ys a = all-right P xs ys a.1

all-left : {X : Type 0} → (P : X → Type 0) (xs ys : List X) → AllByRecursion P (xs ++ ys) → AllByRecursion P xs
all-left P [] ys a = tt
all-left P (x ∷ xs) ys a = (a.0, all-left P xs ys a.1)

-- an entry without a place in a draft
out-joins : (room : ℕ) (d : Draft) (octets : List ℕ) (code size : ℕ) (i : Item) → whole d ≡ octets → d.code ≡ code → length d.value ≡ size → HasNoPlace room octets code size i → joins room d i ≡ false
out-joins room d octets code size i all codes sizes none = choose-code (d.code == i.code) (nat_le (length d.value + length i.octets) 255) (nat_le (length (whole d) + length i.octets) room)
    (λ e f. let len : length (whole d) ≡ length octets = ap length all in
    let same : code ≡ i.code = grind (arith, nat_tests, e, codes) in
    let short : size + length i.octets ≤ 255 = grind (arith, nat_tests, f, sizes) in
    let over = none.joins same short in
    grind (arith, nat_tests, over, len))
  where
    choose-code : (a b c : Bool) → (a ≡ true → b ≡ true → c ≡ false) → (a && b && c) ≡ false
    choose-code false b c h = refl
    choose-code true false c h = refl
    choose-code true true c h = h refl refl

out-begins : (room : ℕ) (d : Draft) (octets : List ℕ) (code size : ℕ) (i : Item) → whole d ≡ octets → HasNoPlace room octets code size i → begins room d i ≡ false
out-begins room d octets code size i all none =
    let len : length (whole d) ≡ length octets = ap length all in
    let over = none.begins in
    grind (arith, nat_tests, over, len)

-- an entry without a place begins the next fragment as it would begin an empty one
next-put : (room : ℕ) (d : Draft) (before : List (List ℕ)) (octets : List ℕ) (i : Item) (more : List Item) → d.done ≡ before → whole d ≡ octets → IsSmall room i → length before < 255 → joins room d i ≡ false → begins room d i ≡ false
    → put_all room d (i ∷ more) ≡ put_all room (blank (before ++ octets ∷ []) []) (i ∷ more)
next-put room d before octets i more dones all small few j b =
    let done = before ++ octets ∷ [] in
    let some = small.code in
    let fits = small.fits in
    let count : length d.done ≡ length before = ap length dones in
    let less : nat_lt (length d.done) 255 ≡ true = grind (arith, nat_tests, few, count) in
    let fresh : Draft = record { done = done; closed = []; code = i.code; value = i.octets } in
    let moved : record { done = d.done ++ whole d ∷ []; closed = []; code = i.code; value = i.octets } ≡ fresh =
    ap (λ (xs : List (List ℕ)). record { done = xs ++ whole d ∷ []; closed = []; code = i.code; value = i.octets }) dones
    ∙ ap (λ (xs : List ℕ). record { done = before ++ xs ∷ []; closed = []; code = i.code; value = i.octets }) all in
    let bj = no-join room (blank done []) i (λ e. absurd (omega (arith, e, some))) in
    let bb : begins room (blank done []) i ≡ true = (let h : 2 + length i.octets ≤ room = fits in grind (arith, nat_tests, h)) in
    put-one room d fresh i more (or-third (joins room d i) (begins room d i) (nat_lt (length d.done) 255) less) (with-next room d i j b ∙ moved)
    ∙ sym (put-one room (blank done []) fresh i more (or-second (joins room (blank done []) i) (begins room (blank done []) i) (nat_lt (length done) 255) bb) (with-begin room (blank done []) i bj bb))

fragments-put : (room : ℕ) (first : List ℕ) (done : List (List ℕ)) (last : List ℕ) (code size : ℕ) (items : List Item) → AllByRecursion (IsSmall room) items → length done ≤ 255 → AreFragments room first done last code size items → Makes room (blank [] first) items done last code size
fragments-put room first done last code size items small few (Single octets was had all f) = fragment-put room first octets was had all [] f
fragments-put room first done last code size items small few (Another before octets was had others are next c n i more f none) =
    let count = length-append before (octets ∷ []) in
    let m = fragments-put room first before octets was had others (all-left (IsSmall room) others (i ∷ more) small) (omega (arith, few, count)) are in
    let k = fragment-put room [] next c n (i ∷ more) (before ++ octets ∷ []) f in
    let put = next-put room m.draft before octets i more m.dones m.all (all-right (IsSmall room) others (i ∷ more) small).0 (omega (arith, few, count))
    (out-joins room m.draft octets was had i m.all m.codes m.sizes none) (out-begins room m.draft octets was had i m.all none) in
    record {
      draft = k.draft;
      put = put_all-append room (blank [] first) m.draft others (i ∷ more) m.put ∙ (put ∙ k.put);
      dones = k.dones;
      all = k.all;
      codes = k.codes;
      sizes = k.sizes;
    }

-- ---- the split

filled-none : (room : ℕ) (d : Draft) (i : Item) (more : List Item) → holds_more room d i ≡ false → filled room d (i ∷ more) ≡ record { fragments = d.done ++ whole d ∷ []; whole = false }
filled-none room d i more h = if-false (holds_more room d i) _ _ h

filled-cut : (room : ℕ) (start d : Draft) (xs : List Item) (i : Item) (more : List Item) → put_all room start xs ≡ Some d → holds_more room d i ≡ false → filled room start (xs ++ i ∷ more) ≡ record { fragments = d.done ++ whole d ∷ []; whole = false }
filled-cut room start d xs i more put none = filled-append room start d xs (i ∷ more) put ∙ filled-none room d i more none

module _ (first : List ℕ) (items : List Item) (room : ℕ) (small : AllByRecursion (IsSmall room) items) (fragments : List (List ℕ)) where
  only-whole : IsGoodSplit first items room (record { fragments = fragments; whole = true }) → record { fragments = fragments; whole = true } ≡ split first items room
  unfolding split
  only-whole g =
      let none = g.all refl in
      let same : items ≡ g.taken = g.entries ∙ ap (λ (r : List Item). g.taken ++ r) none ∙ append-nil g.taken in
      let m = fragments-put room first g.done g.last g.code g.size g.taken (subst (AllByRecursion (IsSmall room)) same small) g.few g.are in
      ap (λ (f : List (List ℕ)). record { fragments = f; whole = true }) (g.fragments ∙ ap (λ (xs : List (List ℕ)). xs ++ g.last ∷ []) (sym m.dones) ∙ ap (λ (x : List ℕ). m.draft.done ++ x ∷ []) (sym m.all))
      ∙ sym (filled-all room (blank [] first) m.draft g.taken m.put)
      ∙ ap (λ (xs : List Item). filled room (blank [] first) xs) (sym same)

  only-cut : IsGoodSplit first items room (record { fragments = fragments; whole = false }) → record { fragments = fragments; whole = false } ≡ split first items room
  unfolding split
  only-cut g =
      let stop = g.stop refl in
      let same : items ≡ g.taken ++ stop.entry ∷ stop.more = g.entries ∙ ap (λ (r : List Item). g.taken ++ r) stop.is in
      let m = fragments-put room first g.done g.last g.code g.size g.taken (all-left (IsSmall room) g.taken (stop.entry ∷ stop.more) (subst (AllByRecursion (IsSmall room)) same small)) g.few g.are in
      let d = m.draft in
      let j = out-joins room d g.last g.code g.size stop.entry m.all m.codes m.sizes stop.none in
      let b = out-begins room d g.last g.code g.size stop.entry m.all stop.none in
      let full = stop.full in
      let count : length d.done ≡ length g.done = ap length m.dones in
      let f : nat_lt (length d.done) 255 ≡ false = grind (arith, nat_tests, full, count) in
      ap (λ (f : List (List ℕ)). record { fragments = f; whole = false }) (g.fragments ∙ ap (λ (xs : List (List ℕ)). xs ++ g.last ∷ []) (sym m.dones) ∙ ap (λ (x : List ℕ). d.done ++ x ∷ []) (sym m.all))
      ∙ sym (filled-cut room (blank [] first) d g.taken stop.entry stop.more m.put (or-none (joins room d stop.entry) (begins room d stop.entry) (nat_lt (length d.done) 255) j b f))
      ∙ ap (λ (xs : List Item). filled room (blank [] first) xs) (sym same)

pub split-only : (first : List ℕ) (items : List Item) (room : ℕ) (s : Split) → AllByRecursion (IsSmall room) items → IsGoodSplit first items room s → s ≡ split first items room
split-only first items room s small g = by s.fragments s.whole g
  where
    by : (fragments : List (List ℕ)) (t : Bool) → IsGoodSplit first items room (record { fragments = fragments; whole = t }) → record { fragments = fragments; whole = t } ≡ split first items room
    by fragments true g = only-whole first items room small fragments g
    by fragments false g = only-cut first items room small fragments g
