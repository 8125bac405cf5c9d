-- An own LSP's octets, field by field, before and after it has a number.
use Rattle.std.proofs.Common.{◌≡◌, ◌∙◌, ℕ, ◌+◌, ◌-◌, ◌*◌, ◌/◌, ◌%◌, ◌<◌, List, [], ◌∷◌, ◌++◌, length, take, drop, is_some, Option, Some, None, refl, sym, ap, subst, arith, length-append}
use Rattle.isis_base.specs.declared.identifiers.LspId.{LspId}
use Rattle.isis_base.specs.declared.level.Level.{Level}
use Rattle.isis_base.specs.declared.level.Level.TheVariants as level
use Rattle.isis_base.specs.Fields.{u16_octets, u32_octets}
use Rattle.std.specs.List.{AllByRecursion}
use Rattle.isis_base.specs.Identifiers.{IsId, lsp_octets, lsp_number}
use Rattle.isis_tlv.specs.Tlvs.{AreTlvs}
use Rattle.isis_tlv.specs.Framed.{IsPdu}
use Rattle.isis_tlv.proofs.TlvLemmas.{tlvs-joined, tlvs-one}
use Rattle.hmac_auth.specs.Auth.{IsDigestPlace}
use Rattle.hmac_auth.specs.Hmac.{hmac}
use Rattle.hmac_auth.specs.Pdus.{with_piece, blanked}
use Rattle.hmac_auth.proofs.HmacLemmas.{length-hmac}
use Rattle.model_router.specs.Routers.{Contents}
use Rattle.hmac_auth.specs.Auth.{digest_place}
use Rattle.std.specs.Option.{option_map}
use Rattle.isis_base.specs.PduKinds.{kind_at, kind_of_number, header_length}
use Rattle.isis_base.specs.declared.pdu_kind.PduKind.TheVariants as kind
use Rattle.isis_pdu.specs.Views.{Lsp}
use Rattle.isis_pdu.specs.Spelling.{start_octets, field_octets}
use Rattle.model_router.specs.Numbers.{u48_octets, lsp_id}
use Rattle.model_datagram.specs.CheckOctets.{checksum_with, with_checksum}
use Rattle.model_datagram.specs.Signing.{auth_octets}
use Rattle.model_datagram.specs.Lsps.{issued_tlvs, issued_checksum, issued_pdu}
use Rattle.isis_pdu.specs.Spelling.{octets_of_pdu}
use Rattle.model_datagram.proofs.AuthLemmas.{blank, written-digest, place-digest}
use Rattle.model_datagram.proofs.IssueLemmas.{issued-in_range}
use Rattle.model_datagram.proofs.ListLemmas.{of-exactly}
use Rattle.router_sending.specs.Drafts.{blank_auth, lsp_octets_with, with_digest}

-- an LSP ID with another system ID
abbrev of_system : LspId → List ℕ → LspId
of_system id system = record { node = record { system = record { 0 = system }; pseudonode = id.node.pseudonode }; number = id.number }

kind-is : (l : Level) (id : LspId) (flags number : ℕ) (tlvs : List ℕ) → option_map header_length (kind_at (lsp_octets_with l id flags number 0 tlvs)) ≡ Some 27
unfolding kind_of_number
kind-is level.One id flags number tlvs = refl
kind-is level.Two id flags number tlvs = refl

module _ (id : LspId) (six : length id.node.system.0 ≡ 6) (level : Level) (flags : ℕ) where
  abbrev by_octets : (LspId → Type 0) → Type 0
  by_octets P = (a b c d e f : ℕ) → P (of_system id (a ∷ b ∷ c ∷ d ∷ e ∷ f ∷ []))

  with_six : (P : LspId → Type 0) → by_octets P → P id
  with_six P all = of-exactly 6 (λ system. P (of_system id system)) all id.node.system.0 six

  -- the PDU length is written once the TLVs are known
  pub sized : (tlvs : List ℕ) → with_piece 8 (u16_octets (27 + length tlvs)) (lsp_octets_with level id flags 0 0 []) ++ tlvs ≡ lsp_octets_with level id flags 0 0 tlvs
  sized tlvs = with_six (λ other. with_piece 8 (u16_octets (27 + length tlvs)) (lsp_octets_with level other flags 0 0 []) ++ tlvs ≡ lsp_octets_with level other flags 0 0 tlvs)
      (λ a b c d e f. refl)

  pub numbered : (number : ℕ) (tlvs : List ℕ) → with_piece 20 (u32_octets number) (lsp_octets_with level id flags 0 0 tlvs) ≡ lsp_octets_with level id flags number 0 tlvs
  numbered number tlvs = with_six (λ other. with_piece 20 (u32_octets number) (lsp_octets_with level other flags 0 0 tlvs) ≡ lsp_octets_with level other flags number 0 tlvs)
      (λ a b c d e f. refl)

  pub size : (number checksum : ℕ) (tlvs : List ℕ) → length (lsp_octets_with level id flags number checksum tlvs) ≡ 27 + length tlvs
  size number checksum tlvs = with_six (λ other. length (lsp_octets_with level other flags number checksum tlvs) ≡ 27 + length tlvs)
      (λ a b c d e f. omega arith)

  -- the checksum's octets are 0 before it is written
  pub unsummed : (number : ℕ) (tlvs : List ℕ) → with_checksum 24 0 (lsp_octets_with level id flags number 0 tlvs) ≡ lsp_octets_with level id flags number 0 tlvs
  unsummed number tlvs = with_six (λ other. with_checksum 24 0 (lsp_octets_with level other flags number 0 tlvs) ≡ lsp_octets_with level other flags number 0 tlvs)
      (λ a b c d e f. refl)

  pub summed : (number checksum : ℕ) (tlvs : List ℕ) → checksum < 65536 → with_checksum 24 checksum (lsp_octets_with level id flags number 0 tlvs) ≡ lsp_octets_with level id flags number checksum tlvs
  summed number checksum tlvs fits =
      let high : checksum / 256 ≡ checksum / 256 % 256 = omega arith in
      with_six (λ other. with_checksum 24 checksum (lsp_octets_with level other flags number 0 tlvs) ≡ lsp_octets_with level other flags number checksum tlvs)
      (λ a b c d e f. λ i. take 24 (lsp_octets_with level (of_system id (a ∷ b ∷ c ∷ d ∷ e ∷ f ∷ [])) flags number 0 tlvs) ++ high i ∷ checksum % 256 ∷ flags ∷ tlvs)

  -- ---- the digest

  -- the header of a PDU with so many octets of TLVs
  abbrev header_with : ℕ → ℕ → List ℕ
  header_with number count = start_octets (kind.Lsp level) ++ field_octets (Lsp level 1200 id number 0 flags []) (27 + count)

  header-size : (number count : ℕ) → length (header_with number count) ≡ 27
  header-size number count = with_six (λ other. length (start_octets (kind.Lsp level) ++ field_octets (Lsp level 1200 other number 0 flags []) (27 + count)) ≡ 27)
      (λ a b c d e f. refl)

  abbrev signed_with : ℕ → List ℕ → List ℕ → List ℕ
  signed_with number d tlvs = lsp_octets_with level id flags number 0 (auth_octets d ++ tlvs)

  headed : (number : ℕ) (d tlvs : List ℕ) → length d ≡ 16 → signed_with number d tlvs ≡ header_with number (19 + length tlvs) ++ (auth_octets d ++ tlvs)
  headed number d tlvs sixteen =
      let both = length-append d tlvs in
      let count : length (auth_octets d ++ tlvs) ≡ 19 + length tlvs = omega arith in
      ap (λ (n : ℕ). header_with number n ++ (auth_octets d ++ tlvs)) count

  -- the digest is written where zeros stood
  pub digested : (number : ℕ) (d tlvs : List ℕ) → length d ≡ 16 → with_piece 30 d (signed_with number blank tlvs) ≡ signed_with number d tlvs
  digested number d tlvs sixteen =
      let front = header_with number (19 + length tlvs) in
      ap (with_piece 30 d) (headed number blank tlvs refl)
      ∙ sym (written-digest front tlvs 27 (header-size number (19 + length tlvs)) d sixteen)
      ∙ sym (headed number d tlvs sixteen)

  behind : (number : ℕ) (tlvs : List ℕ) → drop 27 (lsp_octets_with level id flags number 0 tlvs) ≡ tlvs
  behind number tlvs = with_six (λ other. drop 27 (lsp_octets_with level other flags number 0 tlvs) ≡ tlvs)
      (λ a b c d e f. refl)

  pub framed : (number : ℕ) (tlvs : List ℕ) → AreTlvs tlvs → IsPdu (lsp_octets_with level id flags number 0 tlvs) 27
  framed number tlvs are =
      let all = size number 0 tlvs in
      record {
        kind = kind-is level id flags number tlvs;
        within = omega (arith, all);
        tlvs = subst AreTlvs (sym (behind number tlvs)) are;
      }

  -- the digest's place is behind the header
  pub placed : (number : ℕ) (tlvs : List ℕ) → AreTlvs tlvs → IsDigestPlace (signed_with number blank tlvs) 30
  placed number tlvs are =
      let front = header_with number (19 + length tlvs) in (
        27,
        framed number (auth_octets blank ++ tlvs) (tlvs-joined (auth_octets blank) tlvs (tlvs-one 10 (54 ∷ blank)) are),
        ap (λ (octets : List ℕ). digest_place octets 27) (headed number blank tlvs refl)
            ∙ place-digest front tlvs 27 (header-size number (19 + length tlvs)),
      )

  -- ---- what is issued

  abbrev pub blank_with : Option (List ℕ) → ℕ → List ℕ → List ℕ
  blank_with key number tlvs = lsp_octets_with level id flags number 0 (blank_auth (is_some key) ++ tlvs)

  -- the TLVs of what is issued
  abbrev pub its : Option (List ℕ) → ℕ → List ℕ → List ℕ
  its None number tlvs = tlvs
  its (Some key) number tlvs = auth_octets (hmac key (blanked (signed_with number blank tlvs) 30)) ++ tlvs

  pub signed-octets : (key : Option (List ℕ)) (number : ℕ) (tlvs : List ℕ) → with_digest key (blank_with key number tlvs) ≡ lsp_octets_with level id flags number 0 (its key number tlvs)
  signed-octets None number tlvs = refl
  signed-octets (Some key) number tlvs =
      let message = blanked (signed_with number blank tlvs) 30 in
      digested number (hmac key message) tlvs (length-hmac key message)

  pub its-length : (key : Option (List ℕ)) (number : ℕ) (tlvs : List ℕ) → length (its key number tlvs) ≡ length (blank_auth (is_some key)) + length tlvs
  its-length None number tlvs = omega arith
  its-length (Some key) number tlvs =
      let message = blanked (signed_with number blank tlvs) 30 in
      let d = hmac key message in
      let both = length-append d tlvs in
      let sixteen = length-hmac key message in
      omega (arith, both, sixteen)

  module _ (same : lsp_id (lsp_number id) ≡ id) where
    its-same : (key : Option (List ℕ)) (number : ℕ) (tlvs : List ℕ) → issued_tlvs key level (lsp_number id) number (record { flags = flags; tlvs = tlvs }) ≡ its key number tlvs
    its-same None number tlvs = refl
    its-same (Some key) number tlvs =
        ap (λ (other : LspId). auth_octets (hmac key (blanked (lsp_octets_with level other flags number 0 (auth_octets blank ++ tlvs)) 30)) ++ tlvs) same

    module _ (key : Option (List ℕ)) (number : ℕ) (tlvs : List ℕ) where
      abbrev contents : Contents
      contents = record { flags = flags; tlvs = tlvs }

      abbrev pub before_sum : List ℕ
      before_sum = lsp_octets_with level id flags number 0 (its key number tlvs)

      -- the checksum of what is signed
      pub sum-same : checksum_with (drop 12 before_sum) (length before_sum - 25) ≡ issued_checksum key level (lsp_number id) number contents
      sum-same =
          let all = size number 0 (its key number tlvs) in
          let weight : length before_sum - 25 ≡ length (its key number tlvs) + 2 = omega (arith, all) in
          let tlvs_same = sym (its-same key number tlvs) in
          let id_same = sym same in
          ap (checksum_with (drop 12 before_sum)) weight
          ∙ (λ i. checksum_with (drop 12 (lsp_octets_with level (id_same i) flags number 0 (tlvs_same i))) (length (tlvs_same i) + 2))

      pub octets-same : (checksum : ℕ) → checksum ≡ issued_checksum key level (lsp_number id) number contents
          → with_checksum 24 checksum before_sum ≡ octets_of_pdu (issued_pdu key level (lsp_number id) number contents)
      octets-same checksum is =
          let range = (issued-in_range key level (lsp_number id) number contents).1 in
          let fits : checksum < 65536 = omega (arith, is, range) in
          let tlvs_same = sym (its-same key number tlvs) in
          let id_same = sym same in
          summed number checksum (its key number tlvs) fits
          ∙ (λ i. lsp_octets_with level (id_same i) flags number (is i) (tlvs_same i))

-- ---- LSP IDs as numbers

id-reads_back : (a b c d e f p t : ℕ) → a < 256 → b < 256 → c < 256 → d < 256 → e < 256 → f < 256 → p < 256 → t < 256 → lsp_id (lsp_number (record { node = record { system = record { 0 = a ∷ b ∷ c ∷ d ∷ e ∷ f ∷ [] }; pseudonode = p }; number = t })) ≡ record { node = record { system = record { 0 = a ∷ b ∷ c ∷ d ∷ e ∷ f ∷ [] }; pseudonode = p }; number = t }
unfolding lsp_number
id-reads_back a b c d e f p t sa sb sc sd se sf sp st =
    let id : LspId = record { node = record { system = record { 0 = a ∷ b ∷ c ∷ d ∷ e ∷ f ∷ [] }; pseudonode = p }; number = t } in
    let n = lsp_number id in
    let s = 4294967296 * (256 * a + b) + (256 * (256 * (256 * c + d) + e) + f) in
    let whole : n ≡ 256 * (256 * s + p) + t = omega arith in
    let node : n / 256 ≡ 256 * s + p = omega (arith, whole) in
    let low : n % 256 ≡ t = omega (arith, whole) in
    let top : n / 256 / 256 ≡ s = omega (arith, node) in
    let mid : n / 256 % 256 ≡ p = omega (arith, node) in
    let high : s / 4294967296 ≡ 256 * a + b = omega arith in
    let of_a : s / 4294967296 / 256 % 256 ≡ a = omega (arith, high) in
    let of_b : s / 4294967296 % 256 ≡ b = omega (arith, high) in
    let of_c : s / 16777216 % 256 ≡ c = omega arith in
    let of_d : s / 65536 % 256 ≡ d = omega arith in
    let of_e : s / 256 % 256 ≡ e = omega arith in
    let of_f : s % 256 ≡ f = omega arith in
    let six : u48_octets s ≡ a ∷ b ∷ c ∷ d ∷ e ∷ f ∷ [] = (λ i. of_a i ∷ of_b i ∷ of_c i ∷ of_d i ∷ of_e i ∷ of_f i ∷ []) in
    let first : lsp_id n ≡ record { node = record { system = record { 0 = u48_octets s }; pseudonode = p }; number = t } =
    (λ i. record { node = record { system = record { 0 = u48_octets (top i) }; pseudonode = mid i }; number = low i }) in
    first ∙ (λ i. record { node = record { system = record { 0 = six i }; pseudonode = p }; number = t })

-- an LSP ID of the program is that of its number
pub id-again : (id : LspId) → IsId id → lsp_id (lsp_number id) ≡ id
id-again id is =
    let small = is.small in
    of-exactly 6 (λ system. AllByRecursion (λ octet. octet < 256) (lsp_octets (of_system id system)) → lsp_id (lsp_number (of_system id system)) ≡ of_system id system)
    (λ a b c d e f all. id-reads_back a b c d e f id.node.pseudonode id.number all.0 all.1.0 all.1.1.0 all.1.1.1.0 all.1.1.1.1.0 all.1.1.1.1.1.0 all.1.1.1.1.1.1.0 all.1.1.1.1.1.1.1.0)
    id.node.system.0 is.six small
