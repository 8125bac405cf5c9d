-- What a walk has left after an item, a fault or the end.
use Rattle.std.proofs.Common.{◌≡◌, ℕ, zero, suc, ◌+◌, ◌<◌, ◌≤◌, List, [], ◌∷◌, length, drop, true, false, eqb, Option, Some, None, Result, Ok, Err, refl, sym, ap, ◌∙◌, arith, length-drop}
use Rattle.std.specs.Result.{IfOk}
use Rattle.std.specs.Option.{ok_or, IfSome}
use Rattle.std.proofs.lemmas.Bool.{eqb-true, eqb-false, eq-eqb}
use Rattle.isis_tlv.specs.declared.fault.ValueFault.{ValueFault}
use Rattle.isis_tlv.specs.Walks.{before, walk, items_of}
use Rattle.isis_tlv.specs.Items.{values_of, TakesSome}

module _ {X F : Type 0} where
  -- an item has at least one octet
  abbrev pub Takes : Result (X × ℕ) F → Type 0
  Takes found = IfOk found (λ item. 1 ≤ item.1)

  before-same : (found : Result (X × ℕ) F) (one two : ℕ → List (Result X F)) → ((item : X) (count : ℕ) → found ≡ Ok (item, count) → one count ≡ two count) → before found one ≡ before found two
  before-same (Ok (item, count)) one two same = ap (λ (rest : List (Result X F)). Ok item ∷ rest) (same item count refl)
  before-same (Err fault) one two same = refl

  Takes-one : (found : Result (X × ℕ) F) (item : X) (count : ℕ) → Takes found → found ≡ Ok (item, count) → 1 ≤ count
  Takes-one (Ok (other, n)) item count takes is =
      let pair : ◌≡◌ {A = X × ℕ} (other, n) (item, count) = cc in
      let same = ap (λ (p : X × ℕ). p.1) pair in
      omega arith
  Takes-one (Err fault) item count takes is = cc

  module _ (first : ℕ → List ℕ → Result (X × ℕ) F) (takes : (place : ℕ) (octets : List ℕ) → Takes (first place octets)) where
    -- more room for items than there are octets changes nothing
    walk-enough : (n m place : ℕ) (octets : List ℕ) → length octets ≤ n → length octets ≤ m → walk first n place octets ≡ walk first m place octets
    walk-enough zero zero place octets a b = refl
    walk-enough zero (suc m) place [] a b = refl
    walk-enough zero (suc m) place (octet ∷ octets) a b = absurd (omega arith)
    walk-enough (suc n) zero place [] a b = refl
    walk-enough (suc n) zero place (octet ∷ octets) a b = absurd (omega arith)
    walk-enough (suc n) (suc m) place [] a b = refl
    walk-enough (suc n) (suc m) place (octet ∷ octets) a b =
        before-same (first place (octet ∷ octets)) _ _
        (λ item count is.
        let one = Takes-one (first place (octet ∷ octets)) item count (takes place (octet ∷ octets)) is in
        let gone = length-drop count (octet ∷ octets) in
        walk-enough n m (place + count) (drop count (octet ∷ octets)) (omega arith) (omega arith))

    pub items-none : (place : ℕ) → items_of first place [] ≡ []
    unfolding items_of
    items-none place = refl

    pub items-ok : (place : ℕ) (octets : List ℕ) (item : X) (count : ℕ) → 0 < length octets → first place octets ≡ Ok (item, count) → items_of first place octets ≡ Ok item ∷ items_of first (place + count) (drop count octets)
    unfolding items_of
    items-ok place [] item count some is = absurd (omega arith)
    items-ok place (octet ∷ octets) item count some is =
        let one = Takes-one (first place (octet ∷ octets)) item count (takes place (octet ∷ octets)) is in
        let gone = length-drop count (octet ∷ octets) in
        ap (λ (found : Result (X × ℕ) F). before found (λ n. walk first (length octets) (place + n) (drop n (octet ∷ octets)))) is
        ∙ ap (λ (rest : List (Result X F)). Ok item ∷ rest) (walk-enough (length octets) (length (drop count (octet ∷ octets))) (place + count) (drop count (octet ∷ octets)) (omega arith) (omega arith))

    pub items-err : (place : ℕ) (octets : List ℕ) (fault : F) → 0 < length octets → first place octets ≡ Err fault → items_of first place octets ≡ Err fault ∷ []
    unfolding items_of
    items-err place [] fault some is = absurd (omega arith)
    items-err place (octet ∷ octets) fault some is =
        ap (λ (found : Result (X × ℕ) F). before found (λ n. walk first (length octets) (place + n) (drop n (octet ∷ octets)))) is

    -- at the end nothing is left
    pub items-end : (place : ℕ) (octets : List ℕ) (now : List (Result X F)) → items_of first place octets ≡ now → true ≡ eqb (length octets) 0 → now ≡ []
    items-end place [] now view is = sym view ∙ items-none place
    items-end place (octet ∷ octets) now view is = absurd (let none = eqb-true _ _ (sym is) in omega arith)

    -- an item is the first of what is left, and the octets behind it are left
    pub items-item : (place : ℕ) (octets : List ℕ) (now : List (Result X F)) (item : X) (count later : ℕ) (rest : List ℕ) → items_of first place octets ≡ now → false ≡ eqb (length octets) 0 → Ok (item, count) ≡ first place octets → rest ≡ drop count octets → later ≡ place + count → now ≡ Ok item ∷ items_of first later rest
    items-item place octets now item count later rest view some is past on =
        sym view
        ∙ items-ok place octets item count (let ne = eqb-false _ _ (sym some) in omega arith) (sym is)
        ∙ ap (λ (others : List ℕ). Ok item ∷ items_of first (place + count) others) (sym past)
        ∙ ap (λ (at : ℕ). Ok item ∷ items_of first at rest) (sym on)

    -- a fault is all that is left
    pub items-fault : (place : ℕ) (octets : List ℕ) (now : List (Result X F)) (fault : F) (later : ℕ) (rest : List ℕ) → items_of first place octets ≡ now → false ≡ eqb (length octets) 0 → Err fault ≡ first place octets → rest ≡ [] → now ≡ Err fault ∷ items_of first later rest
    items-fault place octets now fault later rest view some is past =
        sym view
        ∙ items-err place octets fault (let ne = eqb-false _ _ (sym some) in omega arith) (sym is)
        ∙ ap (λ (others : List (Result X F)). Err fault ∷ others) (sym (items-end later rest (items_of first later rest) refl (sym (eq-eqb (length rest) 0 (ap length past)))))

Takes-from_some : {X : Type 0} (found : Option (X × ℕ)) (fault : ValueFault) → IfSome {T = X × ℕ} found (λ item. 1 ≤ item.1) → Takes (ok_or found fault)
Takes-from_some None fault takes = tt
Takes-from_some (Some item) fault takes = takes

-- the first item of a value, or the fault at its place
abbrev placed : {X : Type 0} → (List ℕ → Option (X × ℕ)) → ℕ → List ℕ → Result (X × ℕ) ValueFault
placed first place octets = ok_or (first octets) (record { place = place })

module _ {X : Type 0} (first : List ℕ → Option (X × ℕ)) (takes : TakesSome first) where
  placed-takes : (place : ℕ) (octets : List ℕ) → Takes (placed first place octets)
  placed-takes place octets = Takes-from_some (first octets) (record { place = place }) (takes octets)

  pub values-end : (place : ℕ) (octets : List ℕ) (now : List (Result X ValueFault)) → values_of first place octets ≡ now → true ≡ eqb (length octets) 0 → now ≡ []
  values-end = items-end (placed first) placed-takes

  pub values-item : (place : ℕ) (octets : List ℕ) (now : List (Result X ValueFault)) (item : X) (count later : ℕ) (rest : List ℕ) → values_of first place octets ≡ now → false ≡ eqb (length octets) 0 → Some (item, count) ≡ first octets → rest ≡ drop count octets → later ≡ place + count → now ≡ Ok item ∷ values_of first later rest
  values-item place octets now item count later rest view some is past on =
      items-item (placed first) placed-takes place octets now item count later rest view some (ap (λ (found : Option (X × ℕ)). ok_or found (record { place = place })) is) past on

  pub values-fault : (place : ℕ) (octets : List ℕ) (now : List (Result X ValueFault)) (at later : ℕ) (rest : List ℕ) → values_of first place octets ≡ now → false ≡ eqb (length octets) 0 → None ≡ first octets → rest ≡ [] → at ≡ place → now ≡ Err (record { place = at }) ∷ values_of first later rest
  values-fault place octets now at later rest view some is past on =
      items-fault (placed first) placed-takes place octets now (record { place = at }) later rest view some
      (ap (λ (n : ℕ). Err (record { place = n })) on ∙ ap (λ (found : Option (X × ℕ)). ok_or found (record { place = place })) is)
      past
