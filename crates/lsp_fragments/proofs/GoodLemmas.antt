-- The split of the router's model is good.
use Rattle.std.proofs.Common.{◌≡◌, ℕ, ◌+◌, ◌<◌, ◌≤◌, ◌==◌, nat_lt, ◌||◌, Bool, true, false, List, [], ◌∷◌, ◌++◌, length, refl, sym, ap, ◌∙◌, subst, arith, append_assoc, append-nil, length-append, zero-le}
use Rattle.std.proofs.lemmas.Bool.Decides.{nat_tests}
use Rattle.std.specs.List.{AllByRecursion}
use Rattle.model_router.specs.Splits.{Item, Draft, whole, joins, begins, holds_more, with_item, filled, split}
use Rattle.model_router.specs.SplitLaws.{IsSmall, value_of}
use Rattle.model_router.proofs.BookLemmas.{choose}
use Rattle.model_router.proofs.ListLemmas.{all-append}
use Rattle.lsp_fragments.specs.GoodSplits.{HasNoPlace, IsTlv, IsFragment, Bare, WithTlv, AreFragments, Single, Another, IsGoodSplit}

value-one-more : (xs : List Item) (i : Item) → value_of (xs ++ i ∷ []) ≡ value_of xs ++ i.octets
value-one-more [] i = append-nil i.octets
value-one-more (x ∷ xs) i = ap (λ (r : List ℕ). x.octets ++ r) (value-one-more xs i) ∙ sym (append_assoc x.octets (value_of xs) i.octets)

-- ---- the octets of the open fragment

pub whole-bare : (d : Draft) → d.code ≡ 0 → whole d ≡ d.closed
whole-bare d zero = choose (λ (xs : List ℕ). xs ≡ d.closed) (d.code == 0) d.closed (d.closed ++ d.code ∷ length d.value ∷ d.value) (λ _. refl) (λ e. absurd (grind (arith, nat_tests, e, zero)))

pub whole-tlv : (d : Draft) → 0 < d.code → whole d ≡ d.closed ++ d.code ∷ length d.value ∷ d.value
whole-tlv d some = choose (λ (xs : List ℕ). xs ≡ d.closed ++ d.code ∷ length d.value ∷ d.value) (d.code == 0) d.closed (d.closed ++ d.code ∷ length d.value ∷ d.value) (λ e. absurd (grind (arith, nat_tests, e, some))) (λ _. refl)

pub whole-length : (d : Draft) → 0 < d.code → length (whole d) ≡ length d.closed + 2 + length d.value
whole-length d some = ap length (whole-tlv d some) ∙ (let k = length-append d.closed (d.code ∷ length d.value ∷ d.value) in omega (arith, k))

-- ---- the open fragment

-- a TLV that is open: the entries that it says so far, behind the closed TLVs
record Begun (room : ℕ) (pre : List ℕ) (d : Draft) (items : List Item) : Type 0 where
  code : ℕ
  size : ℕ
  before : List Item
  closed : IsFragment room pre d.closed code size before
  entry : Item
  more : List Item
  tlv : IsTlv d.code entry more
  late : code ≡ d.code → 255 < size + length entry.octets
  fits : length d.closed + 2 + length (value_of (entry ∷ more)) ≤ room
  some : 0 < d.code
  value : d.value ≡ value_of (entry ∷ more)
  all : items ≡ before ++ entry ∷ more

data Open (room : ℕ) (pre : List ℕ) (d : Draft) (items : List Item) : Type 0 where
  Blank : d.code ≡ 0 → d.value ≡ [] → IsFragment room pre d.closed 0 0 items → Open room pre d items
  Filled : Begun room pre d items → Open room pre d items

open-fragment : (room : ℕ) (pre : List ℕ) (d : Draft) (items : List Item) → Open room pre d items → IsFragment room pre (whole d) d.code (length d.value) items
open-fragment room pre d items (Blank code value closed) =
    subst (λ (n : ℕ). IsFragment room pre (whole d) n (length d.value) items) (sym code)
    (subst (λ (xs : List ℕ). IsFragment room pre (whole d) 0 (length xs) items) (sym value)
    (subst (λ (xs : List ℕ). IsFragment room pre xs 0 0 items) (sym (whole-bare d code)) closed))
open-fragment room pre d items (Filled b) =
    subst (IsFragment room pre (whole d) d.code (length d.value)) (sym b.all)
    (subst (λ (xs : List ℕ). IsFragment room pre xs d.code (length d.value) (b.before ++ b.entry ∷ b.more)) (sym (whole-tlv d b.some))
    (subst (λ (v : List ℕ). IsFragment room pre (d.closed ++ d.code ∷ length v ∷ v) d.code (length v) (b.before ++ b.entry ∷ b.more)) (sym b.value)
    (WithTlv d.closed b.code b.size b.before b.closed d.code b.entry b.more b.tlv b.late b.fits)))

open-join : (room : ℕ) (pre : List ℕ) (d : Draft) (items : List Item) (i : Item) → IsSmall room i → joins room d i ≡ true → Open room pre d items → Open room pre (record d { value = d.value ++ i.octets }) (items ++ i ∷ [])
open-join room pre d items i small j (Blank code value closed) = absurd (let some = small.code in grind (arith, nat_tests, j, code, some))
open-join room pre d items i small j (Filled b) =
    let more = value-one-more (b.entry ∷ b.more) i in
    let value = ap (λ (v : List ℕ). v ++ i.octets) b.value ∙ sym more in
    let count : length (d.value ++ i.octets) ≡ length d.value + length i.octets = length-append d.value i.octets in
    let len = whole-length d b.some in
    let code : d.code ≡ i.code = grind (arith, nat_tests, j) in
    let short : length d.value + length i.octets ≤ 255 = grind (arith, nat_tests, j) in
    let room_left : length (whole d) + length i.octets ≤ room = grind (arith, nat_tests, j) in
    let same : length (value_of (b.entry ∷ (b.more ++ i ∷ []))) ≡ length d.value + length i.octets = ap length (sym value) ∙ count in
    Filled (record {
      code = b.code;
      size = b.size;
      before = b.before;
      closed = b.closed;
      entry = b.entry;
      more = b.more ++ i ∷ [];
      tlv = record {
        some = b.some;
        coded = all-append (λ (x : Item). x.code ≡ d.code) (b.entry ∷ b.more) (i ∷ []) b.tlv.coded (sym code, tt);
        short = omega (arith, same, short);
      };
      late = b.late;
      fits = omega (arith, same, len, room_left);
      some = b.some;
      value = value;
      all = ap (λ (r : List Item). r ++ i ∷ []) b.all ∙ append_assoc b.before (b.entry ∷ b.more) (i ∷ []);
    })

one-value : (i : Item) → value_of (i ∷ []) ≡ i.octets
one-value i = append-nil i.octets

-- a TLV begins behind a fragment
begin : (room : ℕ) (pre octets : List ℕ) (code size : ℕ) (before : List Item) (i : Item) (done : List (List ℕ)) → IsSmall room i → IsFragment room pre octets code size before → (code ≡ i.code → 255 < size + length i.octets) → length octets + 2 + length i.octets ≤ room
    → Open room pre (record { done = done; closed = octets; code = i.code; value = i.octets }) (before ++ i ∷ [])
begin room pre octets code size before i done small closed late fits =
    let same : length (value_of (i ∷ [])) ≡ length i.octets = ap length (one-value i) in
    let most = small.value in
    Filled (record {
      code = code;
      size = size;
      before = before;
      closed = closed;
      entry = i;
      more = [];
      tlv = record { some = small.code; coded = (refl, tt); short = omega (arith, same, most) };
      late = late;
      fits = omega (arith, same, fits);
      some = small.code;
      value = sym (one-value i);
      all = refl;
    })

late-begin : (room : ℕ) (d : Draft) (i : Item) → joins room d i ≡ false → begins room d i ≡ true → d.code ≡ i.code → 255 < length d.value + length i.octets
late-begin room d i j b code = grind (arith, nat_tests, j, b, code)

no-place : (room : ℕ) (d : Draft) (i : Item) → joins room d i ≡ false → begins room d i ≡ false → HasNoPlace room (whole d) d.code (length d.value) i
no-place room d i j b = record { joins = λ code short. grind (arith, nat_tests, j, code, short); begins = grind (arith, nat_tests, b) }

-- ---- all fragments

record Behind (room : ℕ) (first : List ℕ) (d : Draft) (items : List Item) : Type 0 where
  done : List (List ℕ)
  octets : List ℕ
  code : ℕ
  size : ℕ
  before : List Item
  are : AreFragments room first done octets code size before
  is : d.done ≡ done ++ octets ∷ []
  entry : Item
  more : List Item
  open_ : Open room [] d (entry ∷ more)
  none : HasNoPlace room octets code size entry
  all : items ≡ before ++ entry ∷ more

data Good (room : ℕ) (first : List ℕ) (d : Draft) (items : List Item) : Type 0 where
  Early : d.done ≡ [] → Open room first d items → Good room first d items
  Later : Behind room first d items → Good room first d items

good-are : (room : ℕ) (first : List ℕ) (d : Draft) (items : List Item) → Good room first d items → AreFragments room first d.done (whole d) d.code (length d.value) items
good-are room first d items (Early e h) =
    subst (λ (done : List (List ℕ)). AreFragments room first done (whole d) d.code (length d.value) items) (sym e) (Single (whole d) d.code (length d.value) items (open-fragment room first d items h))
good-are room first d items (Later b) =
    subst (AreFragments room first d.done (whole d) d.code (length d.value)) (sym b.all)
    (subst (λ (done : List (List ℕ)). AreFragments room first done (whole d) d.code (length d.value) (b.before ++ b.entry ∷ b.more)) (sym b.is)
    (Another b.done b.octets b.code b.size b.before b.are (whole d) d.code (length d.value) b.entry b.more (open-fragment room [] d (b.entry ∷ b.more) b.open_) b.none))

good-put : (room : ℕ) (first : List ℕ) (d : Draft) (items : List Item) (i : Item) → IsSmall room i → Good room first d items → Good room first (with_item room d i) (items ++ i ∷ [])
unfolding with_item
good-put room first d items i small h =
    choose (λ (t : Draft). Good room first t (items ++ i ∷ [])) (joins room d i) _ _ (λ j. joined j h) (λ j.
    choose (λ (t : Draft). Good room first t (items ++ i ∷ [])) (begins room d i) _ _ (λ b. begun j b h) (λ b.
    Later (record {
      done = d.done;
      octets = whole d;
      code = d.code;
      size = length d.value;
      before = items;
      are = good-are room first d items h;
      is = refl;
      entry = i;
      more = [];
      open_ = begin room [] [] 0 0 [] i (d.done ++ whole d ∷ []) small Bare (λ e. absurd (let some = small.code in omega (arith, e, some))) small.fits;
      none = no-place room d i j b;
      all = refl;
    })))
  where
    joined : joins room d i ≡ true → Good room first d items → Good room first (record d { value = d.value ++ i.octets }) (items ++ i ∷ [])
    joined j (Early e o) = Early e (open-join room first d items i small j o)
    joined j (Later b) = Later (record {
      done = b.done;
      octets = b.octets;
      code = b.code;
      size = b.size;
      before = b.before;
      are = b.are;
      is = b.is;
      entry = b.entry;
      more = b.more ++ i ∷ [];
      open_ = open-join room [] d (b.entry ∷ b.more) i small j b.open_;
      none = b.none;
      all = ap (λ (r : List Item). r ++ i ∷ []) b.all ∙ append_assoc b.before (b.entry ∷ b.more) (i ∷ []);
    })

    begun : joins room d i ≡ false → begins room d i ≡ true → Good room first d items → Good room first (record d { closed = whole d; code = i.code; value = i.octets }) (items ++ i ∷ [])
    begun j b (Early e o) = Early e (begin room first (whole d) d.code (length d.value) items i d.done small (open-fragment room first d items o) (late-begin room d i j b) (grind (arith, nat_tests, b)))
    begun j b (Later l) = Later (record {
      done = l.done;
      octets = l.octets;
      code = l.code;
      size = l.size;
      before = l.before;
      are = l.are;
      is = l.is;
      entry = l.entry;
      more = l.more ++ i ∷ [];
      open_ = begin room [] (whole d) d.code (length d.value) (l.entry ∷ l.more) i d.done small (open-fragment room [] d (l.entry ∷ l.more) l.open_) (late-begin room d i j b) (grind (arith, nat_tests, b));
      none = l.none;
      all = ap (λ (r : List Item). r ++ i ∷ []) l.all ∙ append_assoc l.before (l.entry ∷ l.more) (i ∷ []);
    })

-- ---- how many

third : (a b c : Bool) → (a || b || c) ≡ true → a ≡ false → b ≡ false → c ≡ true
third false false c h x y = h
third false true c h x y = absurd (cc)
third true b c h x y = absurd (cc)

none-first : (a b c : Bool) → (a || b || c) ≡ false → a ≡ false
none-first false b c h = refl
none-first true b c h = absurd (cc)

none-second : (a b c : Bool) → (a || b || c) ≡ false → b ≡ false
none-second false false c h = refl
none-second false true c h = absurd (cc)
none-second true b c h = absurd (cc)

none-third : (a b c : Bool) → (a || b || c) ≡ false → c ≡ false
none-third false false c h = h
none-third false true c h = absurd (cc)
none-third true b c h = absurd (cc)

few-put : (room : ℕ) (d : Draft) (i : Item) → holds_more room d i ≡ true → length d.done ≤ 255 → length (with_item room d i).done ≤ 255
unfolding with_item
few-put room d i more h =
    choose (λ (t : Draft). length t.done ≤ 255) (joins room d i) _ _ (λ _. h) (λ j.
    choose (λ (t : Draft). length t.done ≤ 255) (begins room d i) _ _ (λ _. h) (λ b.
    let k = length-append d.done (whole d ∷ []) in
    let t : nat_lt (length d.done) 255 ≡ true = third (joins room d i) (begins room d i) (nat_lt (length d.done) 255) more j b in
    grind (arith, nat_tests, t, k)))

filled-good : (room : ℕ) (first : List ℕ) (d : Draft) (so todo : List Item) → AllByRecursion (IsSmall room) todo → length d.done ≤ 255 → Good room first d so → IsGoodSplit first (so ++ todo) room (filled room d todo)
filled-good room first d so [] small few h = record {
  done = d.done;
  last = whole d;
  code = d.code;
  size = length d.value;
  taken = so;
  rest = [];
  fragments = refl;
  are = good-are room first d so h;
  entries = refl;
  few = few;
  all = λ _. refl;
  stop = λ w. absurd (cc);
}
filled-good room first d so (i ∷ todo) small few h =
    choose (IsGoodSplit first (so ++ i ∷ todo) room) (holds_more room d i) (filled room (with_item room d i) todo) _
    (λ more. subst (λ (items : List Item). IsGoodSplit first items room (filled room (with_item room d i) todo)) (append_assoc so (i ∷ []) todo)
    (filled-good room first (with_item room d i) (so ++ i ∷ []) todo small.1 (few-put room d i more few) (good-put room first d so i small.0 h)))
    (λ none. record {
      done = d.done;
      last = whole d;
      code = d.code;
      size = length d.value;
      taken = so;
      rest = i ∷ todo;
      fragments = refl;
      are = good-are room first d so h;
      entries = refl;
      few = few;
      all = λ w. absurd (cc);
      stop = λ _. record {
        entry = i;
        more = todo;
        is = refl;
        none = no-place room d i (none-first (joins room d i) (begins room d i) (nat_lt (length d.done) 255) none) (none-second (joins room d i) (begins room d i) (nat_lt (length d.done) 255) none);
        full = (let t = none-third (joins room d i) (begins room d i) (nat_lt (length d.done) 255) none in grind (arith, nat_tests, t, few));
      };
    })

pub split-good : (first : List ℕ) (items : List Item) (room : ℕ) → AllByRecursion (IsSmall room) items → IsGoodSplit first items room (split first items room)
unfolding split
split-good first items room small =
    filled-good room first _ [] items small zero-le (Early refl (Blank refl refl Bare))
