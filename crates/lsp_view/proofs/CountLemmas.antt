-- How many items octets list at most.
use Rattle.std.proofs.Common.{◌≡◌, ℕ, zero, suc, ◌+◌, ◌*◌, ◌<◌, ◌≤◌, List, [], ◌∷◌, length, drop, Bool, true, false, cond, eqb, Option, Some, None, Result, Ok, Err, refl, ap, arith, length-append, length-drop}
use Rattle.std.proofs.lemmas.List.{length-map}
use Rattle.std.specs.Option.{ok_or}
use Rattle.std.specs.Prelude.{nat_lt, is_none, is_some}
use Rattle.std.specs.List.{AllByRecursion, flat_map}
use Rattle.std.specs.Result.{ok_prefix}
use Rattle.isis_base.specs.declared.identifiers.LspId.{LspId}
use Rattle.isis_tlv.specs.Walks.{before, walk, items_of, fault_of}
use Rattle.isis_tlv.specs.Tlvs.{TlvView, tlvs_of, tlv_list, tlv_octets, AreTlvs}
use Rattle.isis_tlv.specs.Items.{values_of, neighbour_at, neighbours_of}
use Rattle.lsp_store.specs.declared.entry.Entry.{Entry}
use Rattle.lsp_store.specs.Databases.{is_live, live_of}
use Rattle.lsp_view.specs.Bodies.{body_of, whole, items_if, items_in, neighbours_in}
use Rattle.lsp_view.specs.Views.{row_from, rows_of, lead_of, led_rows, rows_in, IsShort}

-- ---- a value has no more items than octets

module _ {X F : Type 0} where
  before-few : (found : Result (X × ℕ) F) (after : ℕ → List (Result X F)) (n : ℕ) → ((count : ℕ) → length (after count) ≤ n) → length (before found after) ≤ suc n
  before-few (Ok found) after n h = let few = h found.1 in omega (arith, few)
  before-few (Err fault) after n h = omega arith

  walk-few : (first : ℕ → List ℕ → Result (X × ℕ) F) (n place : ℕ) (octets : List ℕ) → length (walk first n place octets) ≤ n
  walk-few first zero place octets = omega arith
  walk-few first (suc n) place [] = omega arith
  walk-few first (suc n) place (octet ∷ octets) = before-few (first place (octet ∷ octets)) _ n (λ count. walk-few first n (place + count) (drop count (octet ∷ octets)))

  ok_prefix-few : (items : List (Result X F)) → length (ok_prefix items) ≤ length items
  ok_prefix-few [] = omega arith
  ok_prefix-few (Ok item ∷ items) = let few = ok_prefix-few items in omega (arith, few)
  ok_prefix-few (Err fault ∷ items) = omega arith

values-few : {X : Type 0} (first : List ℕ → Option (X × ℕ)) (octets : List ℕ) → length (values_of first 0 octets) ≤ length octets
unfolding items_of
values-few first octets = walk-few (λ at item. ok_or (first item) (record { place = at })) (length octets) 0 octets

cond-few : {X : Type 0} (t : Bool) (xs : List X) (n : ℕ) → length xs ≤ n → length (cond t xs []) ≤ n
cond-few true xs n h = h
cond-few false xs n h = omega arith

value-few : (value : List ℕ) → length (whole (neighbours_of value)) ≤ length value
unfolding whole
value-few value =
    let few = ok_prefix-few (neighbours_of value) in
    let all = values-few neighbour_at value in
    cond-few (is_none (fault_of (neighbours_of value))) (ok_prefix (neighbours_of value)) (length value) (omega (arith, few, all))

-- by a test's two answers
choose : (P : Bool → Type 0) (t : Bool) → P true → P false → P t
choose P true a b = a
choose P false a b = b

-- ---- an LSP lists no more neighbours than it has octets

tlvs-few : (tlvs : List TlvView) → length (flat_map (items_if 22 neighbours_of) tlvs) ≤ length (flat_map (λ (tlv : TlvView). tlv_octets tlv.code tlv.value) tlvs)
tlvs-few [] = omega arith
tlvs-few (tlv ∷ tlvs) =
    let here = cond-few (eqb tlv.code 22) (whole (neighbours_of tlv.value)) (length tlv.value) (value-few tlv.value) in
    let rest = tlvs-few tlvs in
    let both = length-append (items_if 22 neighbours_of tlv) (flat_map (items_if 22 neighbours_of) tlvs) in
    let octets = length-append (tlv_octets tlv.code tlv.value) (flat_map (λ (t : TlvView). tlv_octets t.code t.value) tlvs) in
    omega (arith, here, rest, both, octets)

-- octets that are TLVs are these TLVs spelled one after another
abbrev pub Spelled : Type 0
Spelled = (place : ℕ) (octets : List ℕ) → AreTlvs octets → flat_map (λ (tlv : TlvView). tlv_octets tlv.code tlv.value) (tlv_list place octets) ≡ octets

abbrev pub Anywhere : Type 0
Anywhere = (place : ℕ) (octets : List ℕ) → (AreTlvs octets → fault_of (tlvs_of place octets) ≡ None) × (fault_of (tlvs_of place octets) ≡ None → AreTlvs octets)

none-few : (n : ℕ) → length (flat_map (items_if 22 neighbours_of) (tlv_list 0 [])) ≤ n
unfolding items_of
none-few n = omega arith

module _ (spelled : Spelled) (anywhere : Anywhere) where
  by-tests : (octets : List ℕ) (short : Bool) (found : Option _) → fault_of (tlvs_of 0 (drop 27 octets)) ≡ found → length (flat_map (items_if 22 neighbours_of) (tlv_list 0 (cond short [] (cond (is_none found) (drop 27 octets) [])))) ≤ length octets
  by-tests octets true found is = none-few (length octets)
  by-tests octets false (Some fault) is = none-few (length octets)
  by-tests octets false None is =
      let few = tlvs-few (tlv_list 0 (drop 27 octets)) in
      let all = spelled 0 (drop 27 octets) ((anywhere 0 (drop 27 octets)).1 is) in
      let same = ap (λ (xs : List ℕ). length xs) all in
      let less = length-drop 27 octets in
      omega (arith, few, same, less)

  neighbours-few : (octets : List ℕ) → length (neighbours_in octets) ≤ length octets
  unfolding items_in body_of
  neighbours-few octets = by-tests octets (nat_lt (length octets) 27) (fault_of (tlvs_of 0 (drop 27 octets))) refl

  led-few : (entries : List (LspId × Entry)) (pair : LspId × Entry) → IsShort pair → length (led_rows entries pair) ≤ 65535
  led-few entries pair short =
      let few = neighbours-few pair.1.octets in
      let same = length-map (neighbours_in pair.1.octets) (row_from pair.0.node) in
      cond-few (is_some (lead_of entries pair.0.node)) (rows_of pair) 65535 (omega (arith, few, same, short))

  live-few : (entries list : List (LspId × Entry)) → AllByRecursion IsShort list → length (flat_map (led_rows entries) (live_of list)) ≤ 65535 * length list
  live-few entries [] all = omega arith
  live-few entries (pair ∷ list) all =
      let here = led-few entries pair all.0 in
      let rest = live-few entries list all.1 in
      let both = length-append (led_rows entries pair) (flat_map (led_rows entries) (live_of list)) in
      choose (λ (t : Bool). length (flat_map (led_rows entries) (cond t (pair ∷ live_of list) (live_of list))) ≤ 65535 * suc (length list)) (is_live pair.1)
      (omega (arith, here, rest, both)) (omega (arith, rest))

  pub rows-few : (entries : List (LspId × Entry)) → length entries ≤ 65536 → AllByRecursion IsShort entries → length (rows_in entries) < 4294967296
  unfolding rows_in
  rows-few entries few all = let most = live-few entries entries all in omega (arith, most, few)
