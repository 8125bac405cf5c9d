-- TLVs at any first place, and written again.
use Rattle.std.proofs.Common.{◌≡◌, ℕ, zero, suc, ◌+◌, ◌-◌, ◌<◌, ◌≤◌, List, [], ◌∷◌, ◌++◌, length, take, drop, map, Bool, true, false, cond, leb, None, Result, Ok, Err, refl, sym, ap, ◌∙◌, subst, arith, append-nil, append_assoc, length-append}
use Rattle.std.proofs.lemmas.Bool.{le-leb, lt-leb, leb-true, leb-false, ne_eqb}
use Rattle.std.proofs.lemmas.List.{take_at, drop_at, length-take-le, take-append-drop}
use Rattle.std.proofs.Math.Seq.{drop-append-add}
use Rattle.std.specs.List.{AllByRecursion, flat_map}
use Rattle.std.specs.Result.{ok_prefix}
use Rattle.isis_tlv.specs.declared.tlv.TlvFault.{TlvFault}
use Rattle.isis_tlv.specs.declared.tlv.TlvFault.TheVariants.{Header, Past}
use Rattle.isis_tlv.specs.Walks.{fault_of}
use Rattle.isis_tlv.specs.Tlvs.{TlvView, tlv_octets, tlv_at, tlvs_of, tlv_list, AreTlvs, StandsIn}
use Rattle.isis_tlv.proofs.WalkLemmas.{items-none, items-item, items-err}
use Rattle.isis_tlv.proofs.SizeLemmas.{tlv-takes_one}

abbrev tlv : ℕ → ℕ → List ℕ → TlvView
tlv place code value = record { code = code; place = place; value = value }

pub tlvs-end : (place : ℕ) → tlvs_of place [] ≡ []
tlvs-end place = items-none tlv_at tlv-takes_one place

tlv_at-reads_back : (place code : ℕ) (value rest : List ℕ) → tlv_at place (tlv_octets code value ++ rest) ≡ Ok (tlv place code value, 2 + length value)
tlv_at-reads_back place code value rest =
    let all = length-append value rest in
    ap (λ (fits : Bool). cond fits (Ok (tlv place code (take (length value) (value ++ rest)), 2 + length value)) (Err (Past place))) (le-leb (length value) (length (value ++ rest)) (omega arith))
    ∙ ap (λ (read : List ℕ). Ok (tlv place code read, 2 + length value)) (take_at value rest (length value) refl)

drop-tlv : (code : ℕ) (value rest : List ℕ) → drop (2 + length value) (tlv_octets code value ++ rest) ≡ rest
drop-tlv code value rest =
    let two : 2 + length value ≡ suc (suc (length value)) = omega arith in
    ap (λ (n : ℕ). drop n (tlv_octets code value ++ rest)) two ∙ drop_at value rest (length value) refl

pub tlvs-tlv : (place code : ℕ) (value rest : List ℕ) → tlvs_of place (tlv_octets code value ++ rest) ≡ Ok (tlv place code value) ∷ tlvs_of (place + 2 + length value) rest
tlvs-tlv place code value rest =
    items-item tlv_at tlv-takes_one place (tlv_octets code value ++ rest) (tlvs_of place (tlv_octets code value ++ rest)) (tlv place code value) (2 + length value) (place + 2 + length value) rest refl
    (sym (ne_eqb (length (tlv_octets code value ++ rest)) 0 (λ e. omega arith)))
    (sym (tlv_at-reads_back place code value rest))
    (sym (drop-tlv code value rest))
    (omega arith)

pub tlvs-header : (place code : ℕ) → tlvs_of place (code ∷ []) ≡ Err (Header place) ∷ []
tlvs-header place code = items-err tlv_at tlv-takes_one place (code ∷ []) (Header place) (omega arith) refl

pub tlvs-past : (place code count : ℕ) (octets : List ℕ) → length octets < count → tlvs_of place (code ∷ count ∷ octets) ≡ Err (Past place) ∷ []
tlvs-past place code count octets h =
    items-err tlv_at tlv-takes_one place (code ∷ count ∷ octets) (Past place) (omega arith)
    (ap (λ (fits : Bool). cond fits (Ok (tlv place code (take count octets), 2 + count)) (Err (Past place))) (lt-leb count (length octets) h))

-- what holds of no octets, of each fault, and of a TLV before octets of which it holds, holds of all octets
module _ (P : List ℕ → Type 0) (none : P []) (header : (code : ℕ) → P (code ∷ [])) (past : (code count : ℕ) (octets : List ℕ) → length octets < count → P (code ∷ count ∷ octets)) (more : (code : ℕ) (value rest : List ℕ) → P rest → P (tlv_octets code value ++ rest)) where
  by-room : (n : ℕ) (octets : List ℕ) → length octets ≤ n → P octets
  by-room n [] h = none
  by-room n (code ∷ []) h = header code
  by-room zero (code ∷ count ∷ octets) h = absurd (omega arith)
  by-room (suc zero) (code ∷ count ∷ octets) h = absurd (omega arith)
  by-room (suc (suc n)) (code ∷ count ∷ octets) h =
      elim (leb count (length octets)) as (λ fits. leb count (length octets) ≡ fits → P (code ∷ count ∷ octets)) [
        | true ↦ λ fits.
            let within = leb-true count (length octets) fits in
            let taken : length (take count octets) ≡ count = length-take-le count octets within in
            let left : length (drop count octets) ≤ n = omega (arith, length-append (take count octets) (drop count octets), ap length (take-append-drop count octets)) in
            subst (λ (s : List ℕ). P (code ∷ s))
            (ap (λ (k : ℕ). k ∷ (take count octets ++ drop count octets)) taken ∙ ap (λ (s : List ℕ). count ∷ s) (take-append-drop count octets))
            (more code (take count octets) (drop count octets) (by-room n (drop count octets) left))
        | false ↦ λ fits. past code count octets (leb-false count (length octets) fits)
      ] refl

  pub by-tlvs : (octets : List ℕ) → P octets
  by-tlvs octets = by-room (length octets) octets (omega arith)

-- a place does not change where a fault is
abbrev HasNone : List (Result TlvView TlvFault) → Type 0
HasNone items = fault_of items ≡ None

same-none : (one two : List (Result TlvView TlvFault)) → one ≡ two → HasNone one → HasNone two
same-none one two e h = ap fault_of (sym e) ∙ h

pub fault-anywhere : (octets : List ℕ) (p q : ℕ) → HasNone (tlvs_of p octets) → HasNone (tlvs_of q octets)
fault-anywhere = by-tlvs (λ octets. (p q : ℕ) → HasNone (tlvs_of p octets) → HasNone (tlvs_of q octets))
    (λ p q h. same-none [] (tlvs_of q []) (sym (tlvs-end q)) refl)
    (λ code p q h. let no_fault = same-none _ _ (tlvs-header p code) h in cc)
    (λ code count octets long p q h. let no_fault = same-none _ _ (tlvs-past p code count octets long) h in cc)
    (λ code value rest on p q h.
    same-none _ _ (sym (tlvs-tlv q code value rest))
    (on (p + 2 + length value) (q + 2 + length value) (same-none _ _ (tlvs-tlv p code value rest) h)))

pub list-all : (items : List (Result TlvView TlvFault)) → HasNone items → items ≡ map (λ item. Ok item) (ok_prefix items)
list-all [] h = refl
list-all (Ok item ∷ items) h = ap (λ (rest : List (Result TlvView TlvFault)). Ok item ∷ rest) (list-all items h)
list-all (Err fault ∷ items) h = cc

abbrev spelled : TlvView → List ℕ
spelled item = tlv_octets item.code item.value

pub tlvs-reads_back : (octets : List ℕ) (place : ℕ) → HasNone (tlvs_of place octets) → flat_map spelled (tlv_list place octets) ≡ octets
tlvs-reads_back = by-tlvs (λ octets. (place : ℕ) → HasNone (tlvs_of place octets) → flat_map spelled (tlv_list place octets) ≡ octets)
    (λ place h. ap (λ (items : List (Result TlvView TlvFault)). flat_map spelled (ok_prefix items)) (tlvs-end place))
    (λ code place h. let no_fault = same-none _ _ (tlvs-header place code) h in cc)
    (λ code count octets long place h. let no_fault = same-none _ _ (tlvs-past place code count octets long) h in cc)
    (λ code value rest on place h.
    ap (λ (items : List (Result TlvView TlvFault)). flat_map spelled (ok_prefix items)) (tlvs-tlv place code value rest)
    ∙ ap (λ (octets : List ℕ). tlv_octets code value ++ octets) (on (place + 2 + length value) (same-none _ _ (tlvs-tlv place code value rest) h)))

pub tlvs-joined : (first : List ℕ) (rest : List ℕ) → AreTlvs first → AreTlvs rest → AreTlvs (first ++ rest)
tlvs-joined = by-tlvs (λ first. (rest : List ℕ) → AreTlvs first → AreTlvs rest → AreTlvs (first ++ rest))
    (λ rest a b. b)
    (λ code rest a b. let no_fault = same-none _ _ (tlvs-header 0 code) a in cc)
    (λ code count octets long rest a b. let no_fault = same-none _ _ (tlvs-past 0 code count octets long) a in cc)
    (λ code value first on rest a b.
    let later = fault-anywhere first (0 + 2 + length value) 0 (same-none _ _ (tlvs-tlv 0 code value first) a) in
    let whole = on rest later b in
    subst (λ (s : List ℕ). AreTlvs (code ∷ length value ∷ s)) (sym (append_assoc value first rest))
    (same-none _ _ (sym (tlvs-tlv 0 code value (first ++ rest))) (fault-anywhere (first ++ rest) 0 (0 + 2 + length value) whole)))

pub tlvs-one : (code : ℕ) (value : List ℕ) → AreTlvs (tlv_octets code value)
tlvs-one code value =
    subst (λ (s : List ℕ). AreTlvs (code ∷ length value ∷ s)) (append-nil value)
    (same-none _ _ (sym (tlvs-tlv 0 code value [])) (same-none [] _ (sym (tlvs-end (0 + 2 + length value))) refl))

stands-first : (place code : ℕ) (value rest : List ℕ) → StandsIn place (tlv_octets code value ++ rest) (tlv place code value)
stands-first place code value rest =
    let start : place - place ≡ 0 = omega arith in
    let two : place + 2 - place ≡ 2 = omega arith in
    let all = length-append value rest in
    let taken = take_at value rest (length value) refl in
    let size : 2 + length value ≡ suc (suc (length value)) = omega arith in
    record {
      from = omega arith;
      within = omega arith;
      whole =
          ap (λ (n : ℕ). take (2 + length value) (drop n (tlv_octets code value ++ rest))) start
          ∙ ap (λ (n : ℕ). take n (tlv_octets code value ++ rest)) size
          ∙ ap (λ (s : List ℕ). code ∷ length value ∷ s) taken;
      value = ap (λ (n : ℕ). take (length value) (drop n (tlv_octets code value ++ rest))) two ∙ taken;
    }

drop-past : (front rest : List ℕ) (n m : ℕ) → n ≡ length front + m → drop n (front ++ rest) ≡ drop m rest
drop-past front rest n m e = ap (λ (k : ℕ). drop k (front ++ rest)) e ∙ drop-append-add front rest m

stands-later : (place : ℕ) (front rest : List ℕ) (later : ℕ) (item : TlvView) → later ≡ place + length front → StandsIn later rest item → StandsIn place (front ++ rest) item
stands-later place front rest later item e s =
    let from = s.from in
    let within = s.within in
    let all = length-append front rest in
    record {
      from = omega arith;
      within = omega arith;
      whole = ap (take (2 + length item.value)) (drop-past front rest (item.place - place) (item.place - later) (omega arith)) ∙ s.whole;
      value = ap (take (length item.value)) (drop-past front rest (item.place + 2 - place) (item.place + 2 - later) (omega arith)) ∙ s.value;
    }

stands-all : (place : ℕ) (front rest : List ℕ) (later : ℕ) (items : List TlvView) → later ≡ place + length front → AllByRecursion (StandsIn later rest) items → AllByRecursion (StandsIn place (front ++ rest)) items
stands-all place front rest later [] e all = tt
stands-all place front rest later (item ∷ items) e all = (stands-later place front rest later item e all.0, stands-all place front rest later items e all.1)

pub tlvs-stand : (octets : List ℕ) (place : ℕ) → AllByRecursion (StandsIn place octets) (tlv_list place octets)
tlvs-stand = by-tlvs (λ octets. (place : ℕ) → AllByRecursion (StandsIn place octets) (tlv_list place octets))
    (λ place. subst (λ (items : List (Result TlvView TlvFault)). AllByRecursion (StandsIn place []) (ok_prefix items)) (sym (tlvs-end place)) tt)
    (λ code place. subst (λ (items : List (Result TlvView TlvFault)). AllByRecursion (StandsIn place (code ∷ [])) (ok_prefix items)) (sym (tlvs-header place code)) tt)
    (λ code count octets long place. subst (λ (items : List (Result TlvView TlvFault)). AllByRecursion (StandsIn place (code ∷ count ∷ octets)) (ok_prefix items)) (sym (tlvs-past place code count octets long)) tt)
    (λ code value rest on place.
    subst (λ (items : List (Result TlvView TlvFault)). AllByRecursion (StandsIn place (tlv_octets code value ++ rest)) (ok_prefix items)) (sym (tlvs-tlv place code value rest))
    (stands-first place code value rest, stands-all place (tlv_octets code value) rest (place + 2 + length value) (tlv_list (place + 2 + length value) rest) (omega arith) (on (place + 2 + length value))))
