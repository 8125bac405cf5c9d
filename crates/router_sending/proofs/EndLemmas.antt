-- How a datagram ends: with the PDU length and the digest.
use Rattle.std.proofs.Common.{◌≡◌, ◌∙◌, ℕ, ◌+◌, ◌-◌, ◌≤◌, List, [], ◌∷◌, ◌++◌, length, take, drop, Bool, true, false, is_some, Option, Some, None, refl, sym, ap, subst, arith, take_all, append-nil, length-append, length-drop}
use Rattle.std.proofs.lemmas.List.{drop_all}
use borrow.Rule.Slice.PartMut.{put_mid}
use Rattle.isis_base.specs.declared.pdu_kind.PduKind.{PduKind}
use Rattle.isis_base.specs.PduKinds.{header_length, length_place}
use Rattle.isis_base.specs.Fields.{u16_octets}
use Rattle.isis_tlv.specs.Framed.{IsPdu}
use Rattle.isis_tlv.specs.Tlvs.{AreTlvs}
use Rattle.isis_tlv.proofs.TlvLemmas.{tlvs-joined, tlvs-one}
use Rattle.isis_pdu.specs.Views.{PduView}
use Rattle.isis_pdu.specs.Layout.{kind_of}
use Rattle.isis_pdu.specs.Spelling.{octets_of_pdu}
use Rattle.isis_pdu.proofs.FrameLemmas.{framed}
use Rattle.hmac_auth.specs.Auth.{IsDigestPlace, digest_place}
use Rattle.hmac_auth.specs.Hmac.{hmac}
use Rattle.hmac_auth.specs.Pdus.{with_piece, blanked}
use Rattle.hmac_auth.proofs.HmacLemmas.{length-hmac}
use Rattle.model_router.specs.Numbers.{system_id}
use Rattle.model_datagram.specs.Signing.{auth_octets, signed}
use Rattle.model_datagram.proofs.AuthLemmas.{blank, written-digest, place-digest, IsHead}
use Rattle.model_datagram.proofs.ReadLemmas.{octets_of_pdu-begins}
use Rattle.router_sending.specs.Drafts.{blank_auth}
use Rattle.router_sending.specs.Writing.{frame_of, sized, digested, ended, IsSignable, IsEndable}

-- a datagram of which all behind the frame was lent, and given its end
pub behind-frame : (kind : PduKind) (key : Option (List ℕ)) (octets new : List ℕ) → 14 ≤ length octets → new ≡ digested kind key (sized kind (take (length octets - 14) (drop 14 octets)))
    → put_mid 14 (length octets - 14) octets new ≡ ended kind key octets
behind-frame kind key octets new long is =
    let rest = length-drop 14 octets in
    ap (λ (back : List ℕ). take 14 octets ++ (new ++ back)) (drop_all (length octets - 14) (drop 14 octets) (omega (arith, rest)))
    ∙ ap (λ (back : List ℕ). take 14 octets ++ back) (append-nil new ∙ is)
    ∙ ap (λ (pdu : List ℕ). take 14 octets ++ digested kind key (sized kind pdu)) (take_all (length octets - 14) (drop 14 octets) (omega (arith, rest)))

-- a PDU but for its TLVs, whose length stands in its place
pub record IsBegun (kind : PduKind) (pdu : List ℕ → PduView) : Type 0 where
  pub head : IsHead kind pdu
  pub sizes : (rest : List ℕ) → with_piece (length_place kind) (u16_octets (header_length kind + length rest)) (octets_of_pdu (pdu []) ++ rest) ≡ octets_of_pdu (pdu rest)

-- a system's datagram in a boot before its length and digest are known
abbrev pub before_end : ℕ → ℕ → (List ℕ → PduView) → Bool → List ℕ → List ℕ
before_end system boot pdu keyed tlvs = frame_of (system_id system) boot (octets_of_pdu (pdu []) ++ (blank_auth keyed ++ tlvs))

module _ (kind : PduKind) (pdu : List ℕ → PduView) (is : IsBegun kind pdu) (tlvs : List ℕ) (are : AreTlvs tlvs) where
  abbrev inside : Bool → List ℕ
  inside keyed = octets_of_pdu (pdu []) ++ (blank_auth keyed ++ tlvs)

  abbrev auth : List ℕ → List ℕ
  auth d = auth_octets d ++ tlvs

  header-size : length (octets_of_pdu (pdu [])) ≡ header_length kind
  header-size = ap length (is.head.spells [] ∙ append-nil (is.head.front 0)) ∙ is.head.long 0

  pdu-size : (keyed : Bool) → length (inside keyed) ≡ header_length kind + length (blank_auth keyed ++ tlvs)
  pdu-size keyed = length-append (octets_of_pdu (pdu [])) (blank_auth keyed ++ tlvs) ∙ ap (λ (n : ℕ). n + length (blank_auth keyed ++ tlvs)) header-size

  sized-is : (keyed : Bool) → sized kind (inside keyed) ≡ octets_of_pdu (pdu (blank_auth keyed ++ tlvs))
  sized-is keyed =
      ap (λ (n : ℕ). with_piece (length_place kind) (u16_octets n) (inside keyed)) (pdu-size keyed)
      ∙ is.sizes (blank_auth keyed ++ tlvs)

  auth-tlvs : (d : List ℕ) → AreTlvs (auth d)
  auth-tlvs d = tlvs-joined (auth_octets d) tlvs (tlvs-one 10 (54 ∷ d)) are

  auth-length : (d : List ℕ) → length d ≡ 16 → length (auth d) ≡ 19 + length tlvs
  auth-length d sixteen = let both = length-append d tlvs in omega arith

  module _ (fits : header_length kind + 19 + length tlvs ≤ 65535) where
    blank-pdu : IsPdu (octets_of_pdu (pdu (auth blank))) (header_length kind)
    blank-pdu =
        let size = auth-length blank refl in
        let octets = octets_of_pdu (pdu (auth blank)) in
        let begins = octets_of_pdu-begins (pdu (auth blank)) (is.head.writable (auth blank) (omega arith) (auth-tlvs blank)) in
        subst (λ (n : ℕ). IsPdu octets n) (ap header_length (is.head.typed (auth blank)))
        (subst (λ (whole : List ℕ). IsPdu whole (header_length (kind_of (pdu (auth blank))))) (take_all (length octets) octets (omega arith))
        (framed octets (pdu (auth blank)) (length octets) begins))

    placed : IsDigestPlace (sized kind (inside true)) (header_length kind + 3)
    placed =
        let n = length (auth blank) in
        subst (λ (octets : List ℕ). IsDigestPlace octets (header_length kind + 3)) (sym (sized-is true)) (
          header_length kind,
          blank-pdu,
          ap (λ (octets : List ℕ). digest_place octets (header_length kind)) (is.head.spells (auth blank))
              ∙ place-digest (is.head.front n) tlvs (header_length kind) (is.head.long n),
        )

    signable : (key : Option (List ℕ)) → IsSignable kind key (inside (is_some key))
    signable None =
        let size = pdu-size false in
        record { header = omega (arith, size); short = omega (arith, size, fits); room = tt; place = tt }
    signable (Some key) =
        let size = pdu-size true in
        record { header = omega (arith, size); short = omega (arith, size, fits); room = omega (arith, size); place = placed }

    pub endable : (system boot : ℕ) (key : Option (List ℕ)) → IsEndable kind key (before_end system boot pdu (is_some key) tlvs)
    endable system boot key = record { frame = omega arith; pdu = signable key }

  digest-written : (key : List ℕ) → digested kind (Some key) (octets_of_pdu (pdu (auth blank))) ≡ signed (Some key) pdu tlvs
  unfolding signed
  digest-written key =
      let at = header_length kind + 3 in
      let message = blanked (octets_of_pdu (pdu (auth blank))) at in
      let d = hmac key message in
      let sixteen = length-hmac key message in
      let n = length (auth blank) in
      let same : length (auth d) ≡ n = auth-length d sixteen ∙ sym (auth-length blank refl) in
      let header : header_length (kind_of (pdu [])) ≡ header_length kind = ap header_length (is.head.typed []) in
      ap (with_piece at d) (is.head.spells (auth blank))
      ∙ sym (written-digest (is.head.front n) tlvs (header_length kind) (is.head.long n) d sixteen)
      ∙ ap (λ (k : ℕ). is.head.front k ++ auth d) (sym same)
      ∙ sym (is.head.spells (auth d))
      ∙ ap (λ (h : ℕ). octets_of_pdu (pdu (auth (hmac key (blanked (octets_of_pdu (pdu (auth blank))) (h + 3)))))) (sym header)

  pdu-ended : (key : Option (List ℕ)) → digested kind key (sized kind (inside (is_some key))) ≡ signed key pdu tlvs
  unfolding signed
  pdu-ended None = sized-is false
  pdu-ended (Some key) = ap (digested kind (Some key)) (sized-is true) ∙ digest-written key

  pub datagram-ended : (system boot : ℕ) (key : Option (List ℕ)) → ended kind key (before_end system boot pdu (is_some key) tlvs) ≡ frame_of (system_id system) boot (signed key pdu tlvs)
  datagram-ended system boot key = ap (frame_of (system_id system) boot) (pdu-ended key)
