-- The fragments of a split say its entries, each once and in order.
use Rattle.std.proofs.Common.{◌≡◌, ℕ, ◌≤◌, ◌==◌, true, List, [], ◌∷◌, ◌++◌, length, refl, sym, ap, ◌∙◌, subst, arith, append_assoc, length-append, zero-le}
use Rattle.std.proofs.lemmas.Bool.Decides.{nat_tests}
use Rattle.std.specs.List.{AllByRecursion}
use Rattle.model_router.specs.Splits.{Item, Draft, whole, joins, begins, holds_more, with_item, filled, split}
use Rattle.model_router.specs.SplitLaws.{IsSmall, value_of, Says, Silent, Tlv, SayAll, Sole, More, SaysEntries}
use Rattle.model_router.proofs.BookLemmas.{choose}
use Rattle.model_router.proofs.ListLemmas.{all-append}

nothing-more : {X : Type 0} → (xs : List X) → xs ++ [] ≡ xs
nothing-more [] = refl
nothing-more (x ∷ xs) = ap (λ (r : List _). x ∷ r) (nothing-more xs)

value-one-more : (xs : List Item) (i : Item) → value_of (xs ++ i ∷ []) ≡ value_of xs ++ i.octets
value-one-more [] i = nothing-more i.octets
value-one-more (x ∷ xs) i = ap (λ (r : List ℕ). x.octets ++ r) (value-one-more xs i) ∙ sym (append_assoc x.octets (value_of xs) i.octets)

-- what the open fragment says behind what it begins with
record Open (pre : List ℕ) (d : Draft) (items : List Item) : Type 0 where
  octets : List ℕ
  before : List Item
  entries : List Item
  closed : d.closed ≡ pre ++ octets
  says : Says octets before
  all : items ≡ before ++ entries
  value : d.value ≡ value_of entries
  none : d.code ≡ 0 → entries ≡ []
  coded : AllByRecursion (λ (i : Item). i.code ≡ d.code) entries
  short : length (value_of entries) ≤ 255

record Spoken (pre : List ℕ) (octets : List ℕ) (items : List Item) : Type 0 where
  rest : List ℕ
  is : octets ≡ pre ++ rest
  says : Says rest items

whole-says : (pre : List ℕ) (d : Draft) (items : List Item) → Open pre d items → Spoken pre (whole d) items
whole-says pre d items h =
    choose (λ (octets : List ℕ). Spoken pre octets items) (d.code == 0) d.closed (d.closed ++ d.code ∷ length d.value ∷ d.value)
    (λ e. let zero : d.code ≡ 0 = grind (arith, nat_tests, e) in
    record {
      rest = h.octets;
      is = h.closed;
      says = subst (Says h.octets) (sym (h.all ∙ ap (λ (r : List Item). h.before ++ r) (h.none zero) ∙ nothing-more h.before)) h.says;
    })
    (λ _. record {
      rest = h.octets ++ d.code ∷ length (value_of h.entries) ∷ value_of h.entries;
      is = ap (λ (v : List ℕ). d.closed ++ d.code ∷ length v ∷ v) h.value ∙ ap (λ (c : List ℕ). c ++ d.code ∷ length (value_of h.entries) ∷ value_of h.entries) h.closed
          ∙ append_assoc pre h.octets (d.code ∷ length (value_of h.entries) ∷ value_of h.entries);
      says = subst (Says _) (sym h.all) (Tlv h.octets h.before h.says d.code h.entries h.coded h.short);
    })

put-join : (room : ℕ) (pre : List ℕ) (d : Draft) (items : List Item) (i : Item) → joins room d i ≡ true → IsSmall room i → Open pre d items → Open pre (record d { value = d.value ++ i.octets }) (items ++ i ∷ [])
put-join room pre d items i j small h =
    let more = value-one-more h.entries i in
    let code : d.code ≡ i.code = grind (arith, nat_tests, j) in
    let fits : length (d.value ++ i.octets) ≤ 255 = grind (arith, nat_tests, length-append, j) in
    record {
      octets = h.octets;
      before = h.before;
      entries = h.entries ++ i ∷ [];
      closed = h.closed;
      says = h.says;
      all = ap (λ (r : List Item). r ++ i ∷ []) h.all ∙ append_assoc h.before h.entries (i ∷ []);
      value = ap (λ (v : List ℕ). v ++ i.octets) h.value ∙ sym more;
      none = λ zero. absurd (let some = small.code in omega (arith, zero, code, some));
      coded = all-append (λ (x : Item). x.code ≡ d.code) h.entries (i ∷ []) h.coded (sym code, tt);
      short = subst (λ (v : List ℕ). length v ≤ 255) (ap (λ (v : List ℕ). v ++ i.octets) h.value ∙ sym more) fits;
    }

-- a TLV begins behind what was said
put-begin : (room : ℕ) (pre octets : List ℕ) (d : Draft) (items : List Item) (i : Item) → d.code ≡ i.code → d.value ≡ i.octets → IsSmall room i → Spoken pre d.closed items → Open pre d (items ++ i ∷ [])
put-begin room pre octets d items i code value small s = record {
  octets = s.rest;
  before = items;
  entries = i ∷ [];
  closed = s.is;
  says = s.says;
  all = refl;
  value = value ∙ sym (nothing-more i.octets);
  none = λ zero. absurd (let some = small.code in omega (arith, zero, code, some));
  coded = (sym code, tt);
  short = subst (λ (v : List ℕ). length v ≤ 255) (sym (nothing-more i.octets)) small.value;
}

-- what was put into a draft so far
data Put (first : List ℕ) (d : Draft) (items : List Item) : Type 0 where
  Early : d.done ≡ [] → Open first d items → Put first d items
  Later : (a b : List Item) → items ≡ a ++ b → SayAll first d.done a → Open [] d b → Put first d items

finish : (first : List ℕ) (d : Draft) (items : List Item) → Put first d items → SayAll first (d.done ++ whole d ∷ []) items
finish first d items (Early e h) =
    let s = whole-says first d items h in
    subst (λ (done : List (List ℕ)). SayAll first (done ++ whole d ∷ []) items) (sym e) (subst (λ (w : List ℕ). SayAll first (w ∷ []) items) (sym s.is) (Sole s.rest items s.says))
finish first d items (Later a b e said h) =
    let s = whole-says [] d b h in
    subst (SayAll first _) (sym e) (subst (λ (w : List ℕ). SayAll first (d.done ++ w ∷ []) (a ++ b)) (sym s.is) (More d.done a said s.rest b s.says))

with_item-put : (room : ℕ) (first : List ℕ) (d : Draft) (items : List Item) (i : Item) → IsSmall room i → Put first d items → Put first (with_item room d i) (items ++ i ∷ [])
unfolding with_item
with_item-put room first d items i small h =
    choose (λ (t : Draft). Put first t (items ++ i ∷ [])) (joins room d i) _ _ (λ j. joined j h) (λ _.
    choose (λ (t : Draft). Put first t (items ++ i ∷ [])) (begins room d i) _ _ (λ _. begun h) (λ _.
    Later items (i ∷ []) refl (finish first d items h) (put-begin room [] [] _ [] i refl refl small (record { rest = []; is = refl; says = Silent }))))
  where
    joined : joins room d i ≡ true → Put first d items → Put first (record d { value = d.value ++ i.octets }) (items ++ i ∷ [])
    joined j (Early e o) = Early e (put-join room first d items i j small o)
    joined j (Later a b e said o) = Later a (b ++ i ∷ []) (ap (λ (r : List Item). r ++ i ∷ []) e ∙ append_assoc a b (i ∷ [])) said (put-join room [] d b i j small o)

    begun : Put first d items → Put first (record d { closed = whole d; code = i.code; value = i.octets }) (items ++ i ∷ [])
    begun (Early e o) = Early e (put-begin room first [] _ items i refl refl small (whole-says first d items o))
    begun (Later a b e said o) = Later a (b ++ i ∷ []) (ap (λ (r : List Item). r ++ i ∷ []) e ∙ append_assoc a b (i ∷ [])) said (put-begin room [] [] _ b i refl refl small (whole-says [] d b o))

filled-says : (room : ℕ) (first : List ℕ) (d : Draft) (so todo : List Item) → AllByRecursion (IsSmall room) todo → Put first d so → SaysEntries first (so ++ todo) (filled room d todo)
filled-says room first d so [] all h = record { taken = so; rest = []; entries = refl; says = finish first d so h; all = λ _. refl }
filled-says room first d so (i ∷ todo) all h =
    choose (SaysEntries first (so ++ i ∷ todo)) (holds_more room d i) (filled room (with_item room d i) todo) _
    (λ _. subst (λ (items : List Item). SaysEntries first items (filled room (with_item room d i) todo)) (append_assoc so (i ∷ []) todo) (filled-says room first (with_item room d i) (so ++ i ∷ []) todo all.1 (with_item-put room first d so i all.0 h)))
    (λ _. record { taken = so; rest = i ∷ todo; entries = refl; says = finish first d so h; all = λ w. absurd (cc) })

pub split-says : (first : List ℕ) (items : List Item) (room : ℕ) → AllByRecursion (IsSmall room) items → SaysEntries first items (split first items room)
unfolding split
split-says first items room all =
    filled-says room first _ [] items all (Early refl (record { octets = []; before = []; entries = []; closed = sym (nothing-more first); says = Silent; all = refl; value = refl; none = λ _. refl; coded = tt; short = zero-le }))
