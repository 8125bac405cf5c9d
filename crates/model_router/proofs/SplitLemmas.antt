-- A split has at most 256 fragments, and each of them fits the room.
use Rattle.std.proofs.Common.{◌≡◌, ℕ, ◌+◌, ◌<◌, ◌≤◌, ◌==◌, nat_lt, Bool, true, false, ◌||◌, List, [], ◌∷◌, ◌++◌, length, if◌then◌else◌, arith, length-append, zero-le}
use Rattle.std.proofs.lemmas.Bool.Decides.{nat_tests}
use Rattle.std.specs.List.{AllByRecursion}
use Rattle.model_router.specs.Splits.{Item, Draft, Split, whole, joins, begins, holds_more, with_item, filled, split}
use Rattle.model_router.proofs.BookLemmas.{choose}
use Rattle.model_router.proofs.ListLemmas.{all-append}

-- ---- how many

third : (a b c : Bool) → (a || b || c) ≡ true → a ≡ false → b ≡ false → c ≡ true
third false false c h x y = h
third false true c h x y = absurd (cc)
third true b c h x y = absurd (cc)

last-few : (d : Draft) → length d.done ≤ 255 → length (d.done ++ whole d ∷ []) ≤ 256
last-few d h = let k = length-append d.done (whole d ∷ []) in omega (arith, h, k)

item-few : (room : ℕ) (d : Draft) (item : Item) → holds_more room d item ≡ true → length d.done ≤ 255 → length (with_item room d item).done ≤ 255
unfolding with_item
item-few room d item more h =
    choose (λ (e : Draft). length e.done ≤ 255) (joins room d item) _ _ (λ _. h) (λ none.
    choose (λ (e : Draft). length e.done ≤ 255) (begins room d item) _ _ (λ _. h) (λ full.
    let t : nat_lt (length d.done) 255 ≡ true = third (joins room d item) (begins room d item) (nat_lt (length d.done) 255) more none full in
    let k = length-append d.done (whole d ∷ []) in
    grind (arith, nat_tests, t, k)))

filled-few : (room : ℕ) (d : Draft) (items : List Item) → length d.done ≤ 255 → length (filled room d items).fragments ≤ 256
filled-few room d [] h = last-few d h
filled-few room d (item ∷ items) h =
    choose (λ (s : Split). length s.fragments ≤ 256) (holds_more room d item) (filled room (with_item room d item) items) _
    (λ more. filled-few room (with_item room d item) items (item-few room d item more h)) (λ _. last-few d h)

pub split-few : (first : List ℕ) (items : List Item) (room : ℕ) → length (split first items room).fragments ≤ 256
unfolding split
split-few first items room = filled-few room _ items zero-le

-- ---- how long

record Fits (room : ℕ) (d : Draft) : Type 0 where
  done : AllByRecursion (λ (f : List ℕ). length f ≤ room) d.done
  draft : length (whole d) ≤ room

-- an entry more in the last TLV
grown : (d : Draft) (octets : List ℕ) → 0 < d.code → length (whole (record d { value = d.value ++ octets })) ≡ length (whole d) + length octets
grown d octets some =
    choose (λ (xs : List ℕ). length (if d.code == 0 then d.closed else d.closed ++ d.code ∷ length (d.value ++ octets) ∷ (d.value ++ octets)) ≡ length xs + length octets) (d.code == 0) d.closed (d.closed ++ d.code ∷ length d.value ∷ d.value)
    (λ e. absurd (grind (arith, nat_tests, e, some)))
    (λ e. choose (λ (ys : List ℕ). length ys ≡ length (d.closed ++ d.code ∷ length d.value ∷ d.value) + length octets) (d.code == 0) d.closed (d.closed ++ d.code ∷ length (d.value ++ octets) ∷ (d.value ++ octets))
    (λ k. absurd (grind (arith, nat_tests, k, some)))
    (λ _. let a = length-append d.closed (d.code ∷ length (d.value ++ octets) ∷ (d.value ++ octets)) in
    let b = length-append d.value octets in
    let c = length-append d.closed (d.code ∷ length d.value ∷ d.value) in
    omega (arith, a, b, c)))

begun : (closed : List ℕ) (code : ℕ) (octets : List ℕ) → 0 < code → length (if code == 0 then closed else closed ++ code ∷ length octets ∷ octets) ≡ length closed + 2 + length octets
begun closed code octets some =
    choose (λ (xs : List ℕ). length xs ≡ length closed + 2 + length octets) (code == 0) closed (closed ++ code ∷ length octets ∷ octets)
    (λ e. absurd (grind (arith, nat_tests, e, some)))
    (λ _. let a = length-append closed (code ∷ length octets ∷ octets) in omega (arith, a))

item-fits : (room : ℕ) (d : Draft) (item : Item) → 0 < item.code → 2 + length item.octets ≤ room → Fits room d → Fits room (with_item room d item)
unfolding with_item
item-fits room d item some short h =
    choose (Fits room) (joins room d item) _ _
    (λ e. let code : 0 < d.code = grind (arith, nat_tests, e, some) in
    let k = grown d item.octets code in
    record { done = h.done; draft = grind (arith, nat_tests, e, k) })
    (λ _. choose (Fits room) (begins room d item) _ _
    (λ e. let k = begun (whole d) item.code item.octets some in record { done = h.done; draft = grind (arith, nat_tests, e, k) })
    (λ _. let k = begun [] item.code item.octets some in
    record { done = all-append (λ (f : List ℕ). length f ≤ room) d.done (whole d ∷ []) h.done (h.draft, tt); draft = omega (arith, k, short) }))

last-fits : (room : ℕ) (d : Draft) → Fits room d → AllByRecursion (λ (f : List ℕ). length f ≤ room) (d.done ++ whole d ∷ [])
last-fits room d h = all-append (λ (f : List ℕ). length f ≤ room) d.done (whole d ∷ []) h.done (h.draft, tt)

filled-fits : (room : ℕ) (d : Draft) (items : List Item) → AllByRecursion (λ (i : Item). (0 < i.code) × (2 + length i.octets ≤ room)) items → Fits room d → AllByRecursion (λ (f : List ℕ). length f ≤ room) (filled room d items).fragments
filled-fits room d [] all h = last-fits room d h
filled-fits room d (item ∷ items) all h =
    choose (λ (s : Split). AllByRecursion (λ (f : List ℕ). length f ≤ room) s.fragments) (holds_more room d item) (filled room (with_item room d item) items) _
    (λ _. filled-fits room (with_item room d item) items all.1 (item-fits room d item all.0.0 all.0.1 h)) (λ _. last-fits room d h)

pub split-fits : (first : List ℕ) (items : List Item) (room : ℕ) → length first ≤ room → AllByRecursion (λ (i : Item). (0 < i.code) × (2 + length i.octets ≤ room)) items → AllByRecursion (λ (f : List ℕ). length f ≤ room) (split first items room).fragments
unfolding split
split-fits first items room h all = filled-fits room _ items all (record { done = tt; draft = h })
