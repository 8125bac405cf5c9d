-- A digest written into its place.
use Rattle.std.proofs.Common.{◌≡◌, ◌∙◌, ℕ, ◌+◌, ◌-◌, ◌<◌, ◌≤◌, List, [], ◌∷◌, ◌++◌, length, take, drop, get_or, Bool, true, false, cond, not, eqb, ◌&&◌, ◌||◌, Some, None, Result, Ok, Err, refl, sym, ap, arith, append_assoc, length-append, length-drop}
use Rattle.std.specs.Prelude.{find}
use Rattle.std.specs.List.{list_any}
use Rattle.std.specs.Result.{ok_prefix}
use Rattle.std.proofs.Math.Seq.{drop-append-add, take-append-add}
use Rattle.std.proofs.lemmas.Bool.{eqb-true, eq-eqb, and_parts, and_from, cond-true, cond-false}
use Rattle.std.proofs.lemmas.List.{take-take, take-append-le, take_at, drop_at, length-take-le, get_or_append_left, get_or-take}
use Rattle.isis_tlv.specs.Walks.{fault_of}
use Rattle.isis_tlv.specs.Tlvs.{TlvView, tlv_octets, tlvs_of, tlv_list}
use Rattle.isis_tlv.proofs.TlvLemmas.{tlvs-end, tlvs-tlv, tlvs-header, tlvs-past, by-tlvs, fault-anywhere}
use Rattle.hmac_auth.specs.declared.fault.AuthFault.TheVariants.{OtherType}
use Rattle.hmac_auth.specs.Pdus.{with_piece}
use Rattle.hmac_auth.specs.Auth.{place_in}
use Rattle.hmac_auth.proofs.PlaceLemmas.{is_auth, place-within}

-- ---- octets with a piece

module _ (d : List ℕ) where
  pub take-front : (xs : List ℕ) (place n : ℕ) → place ≤ length xs → n ≤ place → take n (with_piece place d xs) ≡ take n xs
  take-front xs place n within below =
      let long = length-take-le place xs within in
      take-append-le n (take place xs) _ (omega arith) ∙ take-take n place xs below

  pub get-front : (xs : List ℕ) (place i : ℕ) → place ≤ length xs → i < place → get_or (with_piece place d xs) i 0 ≡ get_or xs i 0
  get-front xs place i within below =
      let long = length-take-le place xs within in
      get_or_append_left (take place xs) _ 0 i (omega arith) ∙ get_or-take place xs i 0 below

  pub drop-back : (xs : List ℕ) (place : ℕ) → place ≤ length xs → drop (place + length d) (with_piece place d xs) ≡ drop (place + length d) xs
  drop-back xs place within =
      let long = length-take-le place xs within in
      let both = length-append (take place xs) d in
      ap (drop (place + length d)) (sym (append_assoc (take place xs) d (drop (place + length d) xs)))
      ∙ drop_at (take place xs ++ d) (drop (place + length d) xs) (place + length d) (omega arith)

  pub piece-there : (xs : List ℕ) (place : ℕ) → place ≤ length xs → take (length d) (drop place (with_piece place d xs)) ≡ d
  piece-there xs place within =
      ap (take (length d)) (drop_at (take place xs) (d ++ drop (place + length d) xs) place (length-take-le place xs within))
      ∙ take_at d (drop (place + length d) xs) (length d) refl

  pub piece-length : (xs : List ℕ) (place : ℕ) → place + length d ≤ length xs → length (with_piece place d xs) ≡ length xs
  piece-length xs place within =
      let long = length-take-le place xs (omega arith) in
      let one = length-append (take place xs) (d ++ drop (place + length d) xs) in
      let two = length-append d (drop (place + length d) xs) in
      let three = length-drop (place + length d) xs in
      omega arith

  pub piece-later : (front rest : List ℕ) (k m : ℕ) → k ≡ length front + m → with_piece k d (front ++ rest) ≡ front ++ with_piece m d rest
  piece-later front rest k m is =
      let back : k + length d ≡ length front + (m + length d) = omega arith in
      (λ i. take (is i) (front ++ rest) ++ (d ++ drop (back i) (front ++ rest)))
      ∙ (λ i. take-append-add front rest m i ++ (d ++ drop-append-add front rest (m + length d) i))
      ∙ append_assoc front (take m rest) (d ++ drop (m + length d) rest)

-- ---- the TLVs of octets with another digest

abbrev tlv : ℕ → ℕ → List ℕ → TlvView
tlv place code value = record { code = code; place = place; value = value }

abbrev pub is_other : TlvView → Bool
is_other item = not (eqb item.code 10)

head-find : (place code : ℕ) (value rest : List ℕ) → find is_auth (tlv_list place (tlv_octets code value ++ rest)) ≡ cond (eqb code 10) (Some (tlv place code value)) (find is_auth (tlv_list (place + 2 + length value) rest))
head-find place code value rest = ap (λ (items : List (Result TlvView _)). find is_auth (ok_prefix items)) (tlvs-tlv place code value rest)

head-any : (place code : ℕ) (value rest : List ℕ) → list_any is_other (tlv_list place (tlv_octets code value ++ rest)) ≡ (not (eqb code 10) || list_any is_other (tlv_list (place + 2 + length value) rest))
head-any place code value rest = ap (λ (items : List (Result TlvView _)). list_any is_other (ok_prefix items)) (tlvs-tlv place code value rest)

head-fault : (place code : ℕ) (value rest : List ℕ) → fault_of (tlvs_of place (tlv_octets code value ++ rest)) ≡ fault_of (tlvs_of (place + 2 + length value) rest)
head-fault place code value rest = ap fault_of (tlvs-tlv place code value rest)

pub record IsDigestOf (place digest : ℕ) (value : List ℕ) : Type 0 where
  there : digest ≡ place + 3
  size : length value ≡ 17
  kind : get_or value 0 0 ≡ 54

digest-of : (place digest code : ℕ) (value : List ℕ) → place_in (Some (tlv place code value)) ≡ Ok digest → IsDigestOf place digest value
digest-of place digest code value =
    elim (eqb (length value) 17 && eqb (get_or value 0 0) 54) as (λ t. eqb (length value) 17 && eqb (get_or value 0 0) 54 ≡ t → cond t (Ok (place + 3)) (Err OtherType) ≡ Ok digest → IsDigestOf place digest value) [
      | true ↦ λ test is.
          let both = and_parts _ _ test in
          record { there = cc; size = eqb-true _ _ both.0; kind = eqb-true _ _ both.1 }
      | false ↦ λ test is. cc
    ] refl

of-digest : (place code : ℕ) (value : List ℕ) → length value ≡ 17 → get_or value 0 0 ≡ 54 → place_in (Some (tlv place code value)) ≡ Ok (place + 3)
of-digest place code value size kind =
    cond-true _ (Ok (place + 3)) (Err OtherType) (and_from _ _ (eq-eqb (length value) 17 size) (eq-eqb (get_or value 0 0) 54 kind))

module _ (d : List ℕ) (sixteen : length d ≡ 16) where
  -- the octets with the digest are TLVs whose first digest stands where it stood, and of the same codes
  pub record Kept (place k : ℕ) (octets : List ℕ) : Type 0 where
    pub tlvs : fault_of (tlvs_of place (with_piece k d octets)) ≡ None
    pub digest : place_in (find is_auth (tlv_list place (with_piece k d octets))) ≡ Ok (place + k)
    pub others : list_any is_other (tlv_list place (with_piece k d octets)) ≡ list_any is_other (tlv_list place octets)

  piece-first : (code v : ℕ) (vs rest : List ℕ) (k : ℕ) → k ≡ 3 → length vs ≡ 16 → with_piece k d (tlv_octets code (v ∷ vs) ++ rest) ≡ tlv_octets code (v ∷ d) ++ rest
  piece-first code v vs rest k three size =
      let n = length (v ∷ vs) in
      let end : k + length d ≡ 19 = omega arith in
      let same : length (v ∷ vs) ≡ length (v ∷ d) = omega arith in
      (λ i. take (three i) (code ∷ n ∷ v ∷ (vs ++ rest)) ++ (d ++ drop (end i) (code ∷ n ∷ v ∷ (vs ++ rest))))
      ∙ ap (λ (zs : List ℕ). code ∷ n ∷ v ∷ (d ++ zs)) (drop_at vs rest 16 size)
      ∙ ap (λ (m : ℕ). code ∷ m ∷ v ∷ (d ++ rest)) same

  first-kept : (place k code : ℕ) (value rest : List ℕ) → eqb code 10 ≡ true → fault_of (tlvs_of place (tlv_octets code value ++ rest)) ≡ None → IsDigestOf place (place + k) value → Kept place k (tlv_octets code value ++ rest)
  first-kept place k code [] rest ten none is = absurd (let size = is.size in omega arith)
  first-kept place k code (v ∷ vs) rest ten none is =
      let there = is.there in
      let size = is.size in
      let three : k ≡ 3 = omega arith in
      let new = piece-first code v vs rest k three (omega arith) in
      let behind = place + 2 + length (v ∷ vs) in
      let later = place + 2 + length (v ∷ d) in
      let same : later ≡ behind = omega arith in
      record {
        tlvs =
            ap (λ (s : List ℕ). fault_of (tlvs_of place s)) new
            ∙ head-fault place code (v ∷ d) rest
            ∙ fault-anywhere rest behind later (sym (head-fault place code (v ∷ vs) rest) ∙ none);
        digest =
            ap (λ (s : List ℕ). place_in (find is_auth (tlv_list place s))) new
            ∙ ap place_in (head-find place code (v ∷ d) rest ∙ cond-true (eqb code 10) _ _ ten)
            ∙ of-digest place code (v ∷ d) (omega arith) is.kind
            ∙ ap (λ (m : ℕ). Ok (place + m)) (sym three);
        others =
            ap (λ (s : List ℕ). list_any is_other (tlv_list place s)) new
            ∙ head-any place code (v ∷ d) rest
            ∙ ap (λ (m : ℕ). not (eqb code 10) || list_any is_other (tlv_list m rest)) same
            ∙ sym (head-any place code (v ∷ vs) rest);
      }

  abbrev Keeps : List ℕ → Type 0
  Keeps octets = (place k : ℕ) → fault_of (tlvs_of place octets) ≡ None → place_in (find is_auth (tlv_list place octets)) ≡ Ok (place + k) → Kept place k octets

  later-kept : (place k code : ℕ) (value rest : List ℕ) → Keeps rest → eqb code 10 ≡ false → fault_of (tlvs_of place (tlv_octets code value ++ rest)) ≡ None → place_in (find is_auth (tlv_list (place + 2 + length value) rest)) ≡ Ok (place + k) → Kept place k (tlv_octets code value ++ rest)
  later-kept place k code value rest keeps other none is =
      let behind = place + 2 + length value in
      let w = place-within behind (place + k) rest is in
      let from = w.behind in
      let m = k - (2 + length value) in
      let there : place + k ≡ behind + m = omega arith in
      let kept = keeps behind m (sym (head-fault place code value rest) ∙ none) (is ∙ ap Ok there) in
      let new = piece-later d (tlv_octets code value) rest k m (omega arith) in
      record {
        tlvs = ap (λ (s : List ℕ). fault_of (tlvs_of place s)) new ∙ head-fault place code value (with_piece m d rest) ∙ kept.tlvs;
        digest =
            ap (λ (s : List ℕ). place_in (find is_auth (tlv_list place s))) new
            ∙ ap place_in (head-find place code value (with_piece m d rest) ∙ cond-false (eqb code 10) _ _ other)
            ∙ kept.digest
            ∙ ap Ok (sym there);
        others =
            ap (λ (s : List ℕ). list_any is_other (tlv_list place s)) new
            ∙ head-any place code value (with_piece m d rest)
            ∙ ap (λ (t : Bool). not (eqb code 10) || t) kept.others
            ∙ sym (head-any place code value rest);
      }

  pub tlvs-kept : (octets : List ℕ) → Keeps octets
  tlvs-kept = by-tlvs Keeps
      (λ place k none is. let empty = ap (λ (items : List (Result TlvView _)). place_in (find is_auth (ok_prefix items))) (tlvs-end place) in cc)
      (λ code place k none is. let fault = ap fault_of (tlvs-header place code) in cc)
      (λ code count octets long place k none is. let fault = ap fault_of (tlvs-past place code count octets long) in cc)
      (λ code value rest keeps place k none is.
      let found = sym (ap place_in (head-find place code value rest)) ∙ is in
      elim (eqb code 10) as (λ t. eqb code 10 ≡ t → place_in (cond t (Some (tlv place code value)) (find is_auth (tlv_list (place + 2 + length value) rest))) ≡ Ok (place + k) → Kept place k (tlv_octets code value ++ rest)) [
        | true ↦ λ ten h. first-kept place k code value rest ten none (digest-of place (place + k) code value h)
        | false ↦ λ other h. later-kept place k code value rest keeps other none h
      ] refl found)
