-- A PDU that is signed passes, and its authentication says nothing else.
use Rattle.std.proofs.Common.{◌≡◌, ◌∙◌, ℕ, ◌+◌, ◌≤◌, List, [], ◌∷◌, ◌++◌, length, take, drop, replicate, cond, eqb, Bool, true, false, is_none, Option, Some, None, Result, Ok, refl, sym, ap, subst, arith, append_assoc, length-append, take_all, ◌&&◌}
use Rattle.std.specs.Prelude.{find}
use Rattle.std.specs.Result.{ok_prefix}
use Rattle.std.proofs.Math.Seq.{drop-append-add, take-append-add}
use Rattle.std.proofs.lemmas.List.{drop_at}
use Rattle.isis_tlv.specs.declared.tlv.TlvFault.{TlvFault}
use Rattle.isis_tlv.specs.Framed.{IsPdu}
use Rattle.isis_tlv.specs.declared.fault.ValueFault.{ValueFault}
use Rattle.isis_tlv.specs.Tlvs.{TlvView, tlv_list, AreTlvs}
use Rattle.isis_tlv.proofs.TlvLemmas.{tlvs-tlv, tlvs-joined, tlvs-one}
use Rattle.isis_base.specs.declared.pdu_kind.PduKind.{PduKind}
use Rattle.isis_base.specs.PduKinds.{header_length}
use Rattle.isis_pdu.specs.Views.{PduView, tlvs_of_pdu}
use Rattle.isis_pdu.specs.Layout.{kind_of}
use Rattle.isis_pdu.specs.Spelling.{octets_of_pdu, IsWritable}
use Rattle.isis_pdu.proofs.FrameLemmas.{framed}
use Rattle.hmac_auth.specs.Pdus.{is_purge, with_piece, blanked}
use Rattle.hmac_auth.specs.Auth.{place_in, digest_place, has_others, has_purge_body, auth_fault}
use Rattle.hmac_auth.specs.declared.fault.AuthFault.TheVariants.{PurgeBody}
use Rattle.hmac_auth.proofs.HmacLemmas.{length-hmac}
use Rattle.hmac_auth.proofs.PlaceLemmas.{is_auth}
use Rattle.hmac_auth.proofs.SignedLemmas.{new-fault}
use Rattle.model_datagram.specs.Tests.{passes}
use Rattle.model_datagram.specs.Signing.{auth_octets, digest_of, signed_tlvs}
use Rattle.model_datagram.specs.Values.{items_in}
use Rattle.model_datagram.proofs.ReadLemmas.{octets_of_pdu-begins}
use Rattle.model_datagram.proofs.ItemLemmas.{items-tlv}

abbrev pub blank : List ℕ
blank = replicate 16 0

auth-size : (d : List ℕ) → length d ≡ 16 → auth_octets d ≡ 10 ∷ 17 ∷ 54 ∷ d
auth-size d sixteen =
    let size : length (54 ∷ d) ≡ 17 = omega arith in
    ap (λ (n : ℕ). 10 ∷ n ∷ 54 ∷ d) size

module _ (front tlvs : List ℕ) (header : ℕ) (long : length front ≡ header) where
  abbrev with_digest : List ℕ → List ℕ
  with_digest d = front ++ (auth_octets d ++ tlvs)

  -- the digest stands where zeros stood
  pub written-digest : (d : List ℕ) → length d ≡ 16 → with_digest d ≡ with_piece (header + 3) d (with_digest blank)
  written-digest d sixteen =
      let three : header + 3 ≡ length front + 3 = omega arith in
      let end : header + 3 + length d ≡ length front + 19 = omega arith in
      let before : take (header + 3) (with_digest blank) ≡ front ++ 10 ∷ 17 ∷ 54 ∷ [] =
      ap (λ (n : ℕ). take n (with_digest blank)) three ∙ take-append-add front (auth_octets blank ++ tlvs) 3 in
      let behind : drop (header + 3 + length d) (with_digest blank) ≡ tlvs =
      ap (λ (n : ℕ). drop n (with_digest blank)) end ∙ drop-append-add front (auth_octets blank ++ tlvs) 19 in
      ap (λ (auth : List ℕ). front ++ (auth ++ tlvs)) (auth-size d sixteen)
      ∙ sym (append_assoc front (10 ∷ 17 ∷ 54 ∷ []) (d ++ tlvs))
      ∙ (λ i. sym before i ++ (d ++ sym behind i))

  -- the digest of octets whose first TLV is the authentication
  pub place-digest : digest_place (with_digest blank) header ≡ Ok (header + 3)
  unfolding digest_place
  place-digest =
      ap (λ (octets : List ℕ). place_in (find is_auth (tlv_list header octets))) (drop_at front (auth_octets blank ++ tlvs) header long)
      ∙ ap (λ (items : List (Result TlvView TlvFault)). place_in (find is_auth (ok_prefix items))) (tlvs-tlv header 10 (54 ∷ blank) tlvs)

  -- octets with the digest of the PDU pass but for a purge's body
  pub signed-fault : (key : List ℕ) → IsPdu (with_digest blank) header → auth_fault key (with_digest (digest_of key header (with_digest blank))) header ≡ cond (has_purge_body (with_digest blank) header) (Some PurgeBody) None
  signed-fault key pdu =
      let octets = with_digest blank in
      new-fault key octets (with_digest (digest_of key header octets)) (header + 3) (header, pdu, place-digest)
      (written-digest (digest_of key header octets) (length-hmac key (blanked octets (header + 3)))) header pdu

-- A PDU of a type but for its TLVs: its octets are a header, which is the same for all TLVs of one length, and the TLVs.
-- It is no purge.
pub record IsHead (kind : PduKind) (pdu : List ℕ → PduView) : Type 0 where
  pub front : ℕ → List ℕ
  pub long : (n : ℕ) → length (front n) ≡ header_length kind
  pub spells : (tlvs : List ℕ) → octets_of_pdu (pdu tlvs) ≡ front (length tlvs) ++ tlvs
  pub typed : (tlvs : List ℕ) → kind_of (pdu tlvs) ≡ kind
  pub tlvs : (tlvs : List ℕ) → tlvs_of_pdu (pdu tlvs) ≡ tlvs
  pub writable : (tlvs : List ℕ) → header_length kind + length tlvs ≤ 65535 → AreTlvs tlvs → IsWritable (pdu tlvs)
  pub lives : (tlvs : List ℕ) → is_purge (octets_of_pdu (pdu tlvs)) ≡ false

module _ (kind : PduKind) (pdu : List ℕ → PduView) (head : IsHead kind pdu) (tlvs : List ℕ) (are : AreTlvs tlvs) where
  abbrev auth : List ℕ → List ℕ
  auth d = auth_octets d ++ tlvs

  abbrev digest : List ℕ → List ℕ
  digest key = digest_of key (header_length (kind_of (pdu []))) (octets_of_pdu (pdu (auth blank)))

  sixteen : (key : List ℕ) → length (digest key) ≡ 16
  sixteen key = length-hmac key (blanked (octets_of_pdu (pdu (auth blank))) (header_length (kind_of (pdu [])) + 3))

  auth-tlvs : (d : List ℕ) → AreTlvs (auth d)
  auth-tlvs d = tlvs-joined (auth_octets d) tlvs (tlvs-one 10 (54 ∷ d)) are

  auth-length : (d : List ℕ) → length d ≡ 16 → length (auth d) ≡ 19 + length tlvs
  auth-length d size = let both = length-append d tlvs in omega arith

  module _ (fits : header_length kind + 19 + length tlvs ≤ 65535) where
    blank-pdu : IsPdu (octets_of_pdu (pdu (auth blank))) (header_length kind)
    blank-pdu =
        let size = auth-length blank refl in
        let octets = octets_of_pdu (pdu (auth blank)) in
        let begins = octets_of_pdu-begins (pdu (auth blank)) (head.writable (auth blank) (omega arith) (auth-tlvs blank)) in
        subst (λ (n : ℕ). IsPdu octets n) (ap header_length (head.typed (auth blank)))
        (subst (λ (whole : List ℕ). IsPdu whole (header_length (kind_of (pdu (auth blank))))) (take_all (length octets) octets (omega arith))
        (framed octets (pdu (auth blank)) (length octets) begins))

    key-passes : (key : List ℕ) → auth_fault key (octets_of_pdu (pdu (auth (digest key)))) (header_length kind) ≡ None
    unfolding has_purge_body
    key-passes key =
        let n = length (auth blank) in
        let m = length (auth (digest key)) in
        let same : m ≡ n = auth-length (digest key) (sixteen key) ∙ sym (auth-length blank refl) in
        let front = head.front n in
        let of_blank : octets_of_pdu (pdu (auth blank)) ≡ front ++ auth blank = head.spells (auth blank) in
        let of_new : octets_of_pdu (pdu (auth (digest key))) ≡ front ++ auth (digest key) =
        head.spells (auth (digest key)) ∙ ap (λ (k : ℕ). head.front k ++ auth (digest key)) same in
        let header : header_length (kind_of (pdu [])) ≡ header_length kind = ap header_length (head.typed []) in
        let its : digest key ≡ digest_of key (header_length kind) (front ++ auth blank) = λ i. digest_of key (header i) (of_blank i) in
        let framed_blank : IsPdu (front ++ auth blank) (header_length kind) = subst (λ (octets : List ℕ). IsPdu octets (header_length kind)) of_blank blank-pdu in
        let bodiless : is_purge (front ++ auth blank) ≡ false = ap is_purge (sym of_blank) ∙ head.lives (auth blank) in
        ap (λ (octets : List ℕ). auth_fault key octets (header_length kind)) (of_new ∙ ap (λ (d : List ℕ). front ++ auth d) its)
        ∙ signed-fault front tlvs (header_length kind) (head.long n) key framed_blank
        ∙ ap (λ (t : Bool). cond (t && has_others (front ++ auth blank) (header_length kind)) (Some PurgeBody) None) bodiless

  pub signed-length : (key : Option (List ℕ)) → length (signed_tlvs key pdu tlvs) ≤ 19 + length tlvs
  signed-length None = omega arith
  signed-length (Some key) = let size = auth-length (digest key) (sixteen key) in omega arith

  pub signed-are : (key : Option (List ℕ)) → AreTlvs (signed_tlvs key pdu tlvs)
  signed-are None = are
  signed-are (Some key) = auth-tlvs (digest key)

  -- authentication says nothing of another code
  pub signed-items : {X : Type 0} (key : Option (List ℕ)) (code : ℕ) (reader : List ℕ → List (Result X ValueFault)) → eqb 10 code ≡ false → items_in code reader (signed_tlvs key pdu tlvs) ≡ items_in code reader tlvs
  signed-items None code reader other = refl
  signed-items (Some key) code reader other =
      items-tlv code reader 10 (54 ∷ digest key) tlvs
      ∙ ap (λ (t : Bool). cond t (reader (54 ∷ digest key)) [] ++ items_in code reader tlvs) other

  pub signed-passes : (key : Option (List ℕ)) → header_length kind + 19 + length tlvs ≤ 65535 → passes key (octets_of_pdu (pdu (signed_tlvs key pdu tlvs))) (header_length kind) ≡ true
  signed-passes None fits = refl
  signed-passes (Some key) fits = ap is_none (key-passes fits key)

  pub signed-writable : (key : Option (List ℕ)) → header_length kind + 19 + length tlvs ≤ 65535 → IsWritable (pdu (signed_tlvs key pdu tlvs))
  signed-writable key fits =
      let size = signed-length key in
      head.writable (signed_tlvs key pdu tlvs) (omega arith) (signed-are key)
