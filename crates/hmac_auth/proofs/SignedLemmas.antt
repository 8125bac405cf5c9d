-- A PDU that was signed passes.
use Rattle.std.proofs.Common.{◌≡◌, ◌∙◌, ℕ, ◌+◌, ◌-◌, ◌*◌, ◌%◌, ◌≤◌, List, ◌++◌, length, take, drop, replicate, Bool, true, cond, eqb, ◌&&◌, ◌||◌, Some, None, Ok, sym, ap, subst, arith}
use Rattle.std.specs.Prelude.{find}
use Rattle.std.specs.List.{list_any}
use Rattle.std.proofs.lemmas.List.{take-append-drop, drop-drop, drop_at, length-take-le}
use borrow.Rule.Slice.PartMut.{put_mid}
use Rattle.isis_tlv.specs.Walks.{fault_of}
use Rattle.isis_tlv.specs.Tlvs.{tlvs_of, tlv_list}
use Rattle.isis_tlv.proofs.TlvLemmas.{fault-anywhere}
use Rattle.hmac_auth.specs.declared.fault.AuthFault.TheVariants.{PurgeBody, Wrong}
use Rattle.hmac_auth.specs.Hmac.{hmac}
use Rattle.isis_tlv.specs.Framed.{IsPdu}
use Rattle.std.specs.Option.{option_map}
use Rattle.isis_base.specs.PduKinds.{header_length, kind_of_number}
use Rattle.hmac_auth.specs.Pdus.{pdu_type, is_lsp, is_purge, with_piece, zeroed, blanked}
use Rattle.hmac_auth.specs.Auth.{HasDigest, place_in, digest_place, IsDigestPlace, has_purge_body, has_digest, fault_at, auth_fault}
use Rattle.hmac_auth.proofs.HmacLemmas.{length-hmac}
use Rattle.hmac_auth.proofs.PduLemmas.{header-least, lsp-past_header}
use Rattle.hmac_auth.proofs.PlaceLemmas.{is_auth, digest-within}
use Rattle.hmac_auth.proofs.CauseLemmas.{digest-Decides}
use Rattle.hmac_auth.proofs.SignLemmas.{take-front, get-front, drop-back, piece-there, piece-length, piece-later, is_other, Kept, tlvs-kept}

pub digest_place-past_header : (pdu : List ℕ) (place : ℕ) → IsDigestPlace pdu place → is_lsp pdu ≡ true → 26 ≤ place
digest_place-past_header pdu place there = lsp-past_header pdu there.0 place there.1 (digest-within pdu there.0 place there.1.within there.2).0

stands-at : (pdu : List ℕ) (place header : ℕ) → IsDigestPlace pdu place → IsPdu pdu header → digest_place pdu header ≡ Ok place
stands-at pdu place header there is =
    let one = there.1.kind in
    let other = is.kind in
    let same : there.0 ≡ header = cc in
    subst (λ (n : ℕ). digest_place pdu n ≡ Ok place) same there.2

module _ (d pdu : List ℕ) (place : ℕ) (sixteen : length d ≡ 16) where
  abbrev signed : List ℕ
  signed = with_piece place d pdu

  module _ (five : 5 ≤ place) (within : place + 16 ≤ length pdu) where
    same-type : pdu_type signed ≡ pdu_type pdu
    same-type = ap (λ (n : ℕ). n % 32) (get-front d pdu place 4 (omega arith) (omega arith))

    same-lsp : is_lsp signed ≡ is_lsp pdu
    same-lsp = ap (λ (kind : ℕ). eqb kind 18 || eqb kind 20) same-type

    same-blank : zeroed place 16 signed ≡ zeroed place 16 pdu
    same-blank =
        let front = take-front d pdu place place (omega arith) (omega arith) in
        let back : drop (place + 16) signed ≡ drop (place + 16) pdu = subst (λ (n : ℕ). drop (place + n) signed ≡ drop (place + n) pdu) sixteen (drop-back d pdu place (omega arith)) in
        λ i. front i ++ (replicate 16 0 ++ back i)

    -- what stands in the digest's place makes no difference to the message
    pub blanked-same : blanked signed place ≡ blanked pdu place
    unfolding blanked
    blanked-same = λ i. cond (same-lsp i) (zeroed 10 2 (zeroed 24 2 (same-blank i))) (same-blank i)

    pub digest-there : take 16 (drop place signed) ≡ d
    digest-there = ap (λ (n : ℕ). take n (drop place signed)) (sym sixteen) ∙ piece-there d pdu place (omega arith)

  module _ (header : ℕ) (is : IsPdu pdu header) (there : digest_place pdu header ≡ Ok place) where
    least : 17 ≤ header
    least = header-least pdu header is

    bounds : (header + 3 ≤ place) × (place + 16 ≤ length pdu)
    bounds = digest-within pdu header place is.within there

    kept : Kept d sixteen header (place - header) (drop header pdu)
    unfolding digest_place
    kept =
        let b = bounds in
        let split : place ≡ header + (place - header) = omega (arith, b.0) in
        tlvs-kept d sixteen (drop header pdu) header (place - header) (fault-anywhere (drop header pdu) 0 header is.tlvs) (there ∙ ap Ok split)

    same-body : drop header signed ≡ with_piece (place - header) d (drop header pdu)
    same-body =
        let b = bounds in
        let long = length-take-le header pdu is.within in
        let split = piece-later d (take header pdu) (drop header pdu) place (place - header) (omega (arith, b.0)) in
        ap (λ (s : List ℕ). drop header (with_piece place d s)) (sym (take-append-drop header pdu))
        ∙ ap (drop header) split
        ∙ drop_at (take header pdu) (with_piece (place - header) d (drop header pdu)) header long

    pub signed-pdu : IsPdu signed header
    signed-pdu =
        let b = bounds in
        let low = least in
        let long = piece-length d pdu place (omega (arith, b.1)) in
        let within = is.within in
        record {
          kind = ap (λ (n : ℕ). option_map header_length (kind_of_number n)) (same-type (omega (arith, b.0)) b.1) ∙ is.kind;
          within = omega arith;
          tlvs = ap (λ (s : List ℕ). fault_of (tlvs_of 0 s)) same-body ∙ fault-anywhere (with_piece (place - header) d (drop header pdu)) header 0 kept.tlvs;
        }

    signed-place : digest_place signed header ≡ Ok place
    unfolding digest_place
    signed-place =
        let b = bounds in
        let split : header + (place - header) ≡ place = omega (arith, b.0) in
        ap (λ (s : List ℕ). place_in (find is_auth (tlv_list header s))) same-body ∙ kept.digest ∙ ap Ok split

    signed-purge : is_purge signed ≡ is_purge pdu
    signed-purge =
        let b = bounds in
        let low = least in
        let lsp = same-lsp (omega (arith, b.0)) b.1 in
        let one = get-front d pdu place 10 (omega (arith, b.1)) (omega (arith, b.0)) in
        let two = get-front d pdu place 11 (omega (arith, b.1)) (omega (arith, b.0)) in
        λ i. lsp i && eqb (256 * one i + two i) 0

    signed-purge_body : has_purge_body signed header ≡ has_purge_body pdu header
    unfolding has_purge_body
    signed-purge_body =
        let others = ap (λ (s : List ℕ). list_any is_other (tlv_list header s)) same-body ∙ kept.others in
        λ i. signed-purge i && others i

    -- all that `check_pdu` finds in the octets with the digest
    pub signed-fault : (key : List ℕ) → HasDigest key signed place → auth_fault key signed header ≡ cond (has_purge_body pdu header) (Some PurgeBody) None
    unfolding auth_fault
    signed-fault key digest =
        ap (fault_at key signed header) signed-place
        ∙ ap (λ (b : Bool). cond b (Some PurgeBody) (cond (has_digest key signed place) None (Some Wrong))) signed-purge_body
        ∙ ap (λ (b : Bool). cond (has_purge_body pdu header) (Some PurgeBody) (cond b None (Some Wrong))) ((digest-Decides key signed place).1 digest)

-- ---- what `sign_pdu` leaves

-- a digest copied over the sixteen octets from a place on
pub copied-is : (pdu copied piece : List ℕ) (place : ℕ) → copied ≡ piece → length piece ≡ 16 → put_mid place (place + 16 - place) pdu copied ≡ with_piece place piece pdu
copied-is pdu copied piece place is size =
    let end : place + (place + 16 - place) ≡ place + length piece = omega arith in
    let back = drop-drop (place + 16 - place) place pdu ∙ ap (λ (n : ℕ). drop n pdu) end in
    λ i. take place pdu ++ (is i ++ back i)

module _ (key pdu new : List ℕ) (place : ℕ) (there : IsDigestPlace pdu place) (is : new ≡ with_piece place (hmac key (blanked pdu place)) pdu) where
  abbrev digest : List ℕ
  digest = hmac key (blanked pdu place)

  sixteen : length digest ≡ 16
  sixteen = length-hmac key (blanked pdu place)

  has : HasDigest key (with_piece place digest pdu) place
  has =
      let b = digest-within pdu there.0 place there.1.within there.2 in
      let low = header-least pdu there.0 there.1 in
      let five : 5 ≤ place = omega (arith, b.0) in
      digest-there digest pdu place sixteen five b.1 ∙ ap (hmac key) (sym (blanked-same digest pdu place sixteen five b.1))

  pub new-digest : HasDigest key new place
  new-digest = subst (λ (s : List ℕ). HasDigest key s place) (sym is) has

  pub new-pdu : (header : ℕ) → IsPdu pdu header → IsPdu new header
  new-pdu header pdu_is =
      subst (λ (s : List ℕ). IsPdu s header) (sym is) (signed-pdu digest pdu place sixteen header pdu_is (stands-at pdu place header there pdu_is))

  pub new-fault : (header : ℕ) → IsPdu pdu header → auth_fault key new header ≡ cond (has_purge_body pdu header) (Some PurgeBody) None
  new-fault header pdu_is =
      ap (λ (s : List ℕ). auth_fault key s header) is ∙ signed-fault digest pdu place sixteen header pdu_is (stands-at pdu place header there pdu_is) key has
