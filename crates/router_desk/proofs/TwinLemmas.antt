-- Six octets and their number, and two words for one thing.
use Rattle.std.proofs.Common.{◌≡◌, ℕ, ◌+◌, ◌*◌, ◌/◌, ◌%◌, ◌<◌, List, [], ◌∷◌, length, map, Bool, true, false, Option, Some, None, unwrap_or, eqb, refl, sym, ap, ◌∙◌, arith}
use lib.Pointwise.{pointwise}
use Rattle.std.proofs.lemmas.Bool.{eq-eqb, eqb-true, and_from, and_parts}
use Rattle.isis_base.specs.declared.entry.LspEntry.{LspEntry}
use Rattle.model_datagram.specs.Values.{handshake, snp_entry}
use Rattle.flag_sync.specs.Heard.{entries_of}
use Rattle.std.specs.List.{AllByRecursion}
use Rattle.std.specs.Option.{option_map}
use Rattle.isis_base.specs.declared.identifiers.SystemId.{SystemId}
use Rattle.isis_tlv.specs.declared.three_way.ThreeWay.{ThreeWay}
use Rattle.adjacency.specs.Views as adjacency
use Rattle.model_router.specs.Numbers.{u48_of, u48_octets, system_number}
use Rattle.model_datagram.proofs.ListLemmas.{of-exactly}

abbrev Small : List ℕ → Type 0
Small octets = AllByRecursion (λ octet. octet < 256) octets

-- ---- octets and their numbers

octets-again : (octets : List ℕ) → length octets ≡ 6 → Small octets → u48_octets (u48_of octets) ≡ octets
octets-again = of-exactly 6 (λ octets. Small octets → u48_octets (u48_of octets) ≡ octets)
    (λ a b c d e f all. six-again a b c d e f all.0 all.1.0 all.1.1.0 all.1.1.1.0 all.1.1.1.1.0 all.1.1.1.1.1.0)
  where
    six-again : (a b c d e f : ℕ) → a < 256 → b < 256 → c < 256 → d < 256 → e < 256 → f < 256 → u48_octets (u48_of (a ∷ b ∷ c ∷ d ∷ e ∷ f ∷ [])) ≡ a ∷ b ∷ c ∷ d ∷ e ∷ f ∷ []
    six-again a b c d e f sa sb sc sd se sf =
        let s = 4294967296 * (256 * a + b) + (256 * (256 * (256 * c + d) + e) + f) in
        let high : s / 4294967296 ≡ 256 * a + b = omega arith in
        let of_a : s / 4294967296 / 256 % 256 ≡ a = omega (arith, high) in
        let of_b : s / 4294967296 % 256 ≡ b = omega (arith, high) in
        let of_c : s / 16777216 % 256 ≡ c = omega arith in
        let of_d : s / 65536 % 256 ≡ d = omega arith in
        let of_e : s / 256 % 256 ≡ e = omega arith in
        let of_f : s % 256 ≡ f = omega arith in
        (λ i. of_a i ∷ of_b i ∷ of_c i ∷ of_d i ∷ of_e i ∷ of_f i ∷ [])

both-true : (p q : Bool) → (p ≡ true → q ≡ true) → (q ≡ true → p ≡ true) → p ≡ q
both-true true q there back = sym (there refl)
both-true false true there back = back refl
both-true false false there back = refl

-- six octets are the same where their numbers are
pub same-numbers : (xs ys : List ℕ) → length xs ≡ 6 → Small xs → length ys ≡ 6 → Small ys → pointwise eqb xs ys ≡ eqb (u48_of xs) (u48_of ys)
same-numbers xs ys six_x small_x six_y small_y =
    both-true (pointwise eqb xs ys) (eqb (u48_of xs) (u48_of ys))
    (λ is. eq-eqb (u48_of xs) (u48_of ys) (ap u48_of (pointwise-same xs ys is)))
    (λ is.
    let numbers = eqb-true (u48_of xs) (u48_of ys) is in
    let same : xs ≡ ys = sym (octets-again xs six_x small_x) ∙ ap u48_octets numbers ∙ octets-again ys six_y small_y in
    ap (λ (zs : List ℕ). pointwise eqb xs zs) (sym same) ∙ pointwise-self xs)
  where
    pointwise-self : (xs : List ℕ) → pointwise eqb xs xs ≡ true
    pointwise-self [] = refl
    pointwise-self (x ∷ xs) = and_from _ _ (eq-eqb x x refl) (pointwise-self xs)

    pointwise-same : (xs ys : List ℕ) → pointwise eqb xs ys ≡ true → xs ≡ ys
    pointwise-same [] [] is = refl
    pointwise-same [] (y ∷ ys) is = cc
    pointwise-same (x ∷ xs) [] is = cc
    pointwise-same (x ∷ xs) (y ∷ ys) is =
        let both = and_parts (eqb x y) (pointwise eqb xs ys) is in
        let first = eqb-true x y both.0 in
        let rest = pointwise-same xs ys both.1 in
        (λ i. first i ∷ rest i)

-- ---- what is read

names-twins : (names : Option (SystemId × ℕ)) → adjacency.names_of names ≡ option_map (λ (heard : SystemId × ℕ). (system_number heard.0, heard.1)) names
names-twins None = refl
names-twins (Some names) = refl

ids-twins : (id : Option ℕ) → adjacency.id_or_0 id ≡ unwrap_or id 0
ids-twins None = refl
ids-twins (Some id) = refl

pub handshake-twins : (value : Option ThreeWay) → adjacency.shakes_of value ≡ option_map handshake value
handshake-twins None = refl
handshake-twins (Some value) =
    let ids = ids-twins value.own_id in
    let names = names-twins value.neighbour in
    (λ i. Some (record { state = value.state; extended = ids i; names = names i }))

pub entries-twins : (entries : List LspEntry) → entries_of entries ≡ map snp_entry entries
entries-twins [] = refl
entries-twins (e ∷ entries) = ap (λ rest. snp_entry e ∷ rest) (entries-twins entries)
