-- Each fault comes just where its cause stands.
use Rattle.std.proofs.Common.{◌≡◌, ◌≢◌, ◌∙◌, ℕ, ◌+◌, List, length, take, drop, get_or, Bool, true, false, cond, not, eqb, ◌&&◌, ◌↔◌, Option, Some, None, Result, Ok, Err, refl, sym, ap, subst}
use Rattle.std.specs.Prelude.{Any, IsSomeAnd, IsOk}
use Rattle.std.specs.List.{list_any}
use Rattle.std.specs.Result.{result_err}
use Rattle.std.specs.Bool.{Decides}
use Rattle.std.proofs.lemmas.Bool.{eqb-false, ne_eqb, not-true, not_from_false, false_from_ne_true}
use Rattle.std.proofs.lemmas.Bool.Decides.{Decides-and, Decides-eqb}
use Rattle.std.proofs.lemmas.List.Folds.{Any-from_list_any, list_any-from_Any}
use Rattle.std.proofs.lemmas.Slice.Eq.{bytes_eq-Decides}
use Rattle.isis_tlv.specs.Tlvs.{TlvView}
use Rattle.hmac_auth.specs.declared.fault.AuthFault.{AuthFault}
use Rattle.hmac_auth.specs.declared.fault.AuthFault.TheVariants.{Missing, OtherType, PurgeBody, Wrong}
use Rattle.hmac_auth.specs.Hmac.{hmac}
use Rattle.hmac_auth.specs.Pdus.{is_purge, blanked}
use Rattle.hmac_auth.specs.Auth.{pdu_tlvs, auth_tlv, IsHmac, HasDigest, HasPurgeBody, IsAuthentic, AuthCause, place_in, digest_place, has_others, has_purge_body, has_digest, fault_at, auth_fault}

-- the tests decide the facts
abbrev hmac_test : TlvView → Bool
hmac_test tlv = eqb (length tlv.value) 17 && eqb (get_or tlv.value 0 0) 54

hmac-Decides : (tlv : TlvView) → Decides (hmac_test tlv) (IsHmac tlv)
hmac-Decides tlv = Decides-and _ _ (Decides-eqb (length tlv.value) 17) (Decides-eqb (get_or tlv.value 0 0) 54)

others-Decides : (tlvs : List TlvView) → Decides (list_any (λ tlv. not (eqb tlv.code 10)) tlvs) (Any (λ tlv. tlv.code ≢ 10) tlvs)
others-Decides tlvs = (
  (λ some. let (k, tlv, within, at, other) = Any-from_list_any (λ (tlv : TlvView). not (eqb tlv.code 10)) tlvs some in
      (k, tlv, within, at, eqb-false tlv.code 10 (not-true _ other))),
  (λ (k, tlv, within, at, other). list_any-from_Any (λ (tlv : TlvView). not (eqb tlv.code 10)) tlvs
      (k, tlv, within, at, not_from_false _ (ne_eqb tlv.code 10 other))),
)

body-Decides : (pdu : List ℕ) (header : ℕ) → Decides (has_purge_body pdu header) (HasPurgeBody pdu header)
unfolding has_purge_body
body-Decides pdu header = Decides-and (is_purge pdu) (has_others pdu header) (λ e. e, λ e. e) (others-Decides (pdu_tlvs pdu header))

pub digest-Decides : (key pdu : List ℕ) (place : ℕ) → Decides (has_digest key pdu place) (HasDigest key pdu place)
unfolding has_digest
digest-Decides key pdu place =
    let same = bytes_eq-Decides (hmac key (blanked pdu place)) (take 16 (drop place pdu)) in
    (λ e. sym (same.0 e), λ h. same.1 (sym h))

module _ (key pdu : List ℕ) (header : ℕ) where
  abbrev fault_of : Option TlvView → Option AuthFault
  fault_of found = fault_at key pdu header (place_in found)

  -- the fault by the three tests
  fault-is_some : (tlv : TlvView) (t b d : Bool) → hmac_test tlv ≡ t → has_purge_body pdu header ≡ b → has_digest key pdu (tlv.place + 3) ≡ d → fault_of (Some tlv) ≡ cond t (cond b (Some PurgeBody) (cond d None (Some Wrong))) (Some OtherType)
  fault-is_some tlv true b d hmac body digest =
      ap (λ (u : Bool). fault_at key pdu header (cond u (Ok (tlv.place + 3)) (Err OtherType))) hmac
      ∙ ap (λ (u : Bool). cond u (Some PurgeBody) (cond (has_digest key pdu (tlv.place + 3)) None (Some Wrong))) body
      ∙ ap (λ (u : Bool). cond b (Some PurgeBody) (cond u None (Some Wrong))) digest
  fault-is_some tlv false b d hmac body digest =
      ap (λ (u : Bool). fault_at key pdu header (cond u (Ok (tlv.place + 3)) (Err OtherType))) hmac

  abbrev is_not : {P : Type 0} (t : Bool) → Decides t P → ¬ P → t ≡ false
  is_not t decides no_p = false_from_ne_true t (λ e. no_p (decides.0 e))

  -- each case gives its fault
  other-fault : (found : Option TlvView) → IsSomeAnd found (λ tlv. ¬ IsHmac tlv) → fault_of found ≡ Some OtherType
  other-fault None h = absurd h
  other-fault (Some tlv) h = fault-is_some tlv false _ _ (is_not _ (hmac-Decides tlv) h) refl refl

  body-fault : (found : Option TlvView) → IsSomeAnd found IsHmac → HasPurgeBody pdu header → fault_of found ≡ Some PurgeBody
  body-fault None h body = absurd h
  body-fault (Some tlv) h body = fault-is_some tlv true true _ ((hmac-Decides tlv).1 h) ((body-Decides pdu header).1 body) refl

  wrong-fault : (found : Option TlvView) → IsSomeAnd found (λ tlv. IsHmac tlv × ¬ HasDigest key pdu (tlv.place + 3)) → ¬ HasPurgeBody pdu header → fault_of found ≡ Some Wrong
  wrong-fault None h body = absurd h
  wrong-fault (Some tlv) h body = fault-is_some tlv true false false ((hmac-Decides tlv).1 h.0) (is_not _ (body-Decides pdu header) body) (is_not _ (digest-Decides key pdu (tlv.place + 3)) h.1)

  no-fault : (found : Option TlvView) → IsSomeAnd found (λ tlv. IsHmac tlv × HasDigest key pdu (tlv.place + 3)) → ¬ HasPurgeBody pdu header → fault_of found ≡ None
  no-fault None h body = absurd h
  no-fault (Some tlv) h body = fault-is_some tlv true false true ((hmac-Decides tlv).1 h.0) (is_not _ (body-Decides pdu header) body) ((digest-Decides key pdu (tlv.place + 3)).1 h.1)

  fault-from_cause : (fault : AuthFault) → AuthCause key pdu header fault → auth_fault key pdu header ≡ Some fault
  unfolding auth_fault digest_place
  fault-from_cause Missing h = ap fault_of h
  fault-from_cause OtherType h = other-fault (auth_tlv pdu header) h
  fault-from_cause PurgeBody h = body-fault (auth_tlv pdu header) h.0 h.1
  fault-from_cause Wrong h = wrong-fault (auth_tlv pdu header) h.0 h.1

  none-from_authentic : IsAuthentic key pdu header → auth_fault key pdu header ≡ None
  unfolding auth_fault digest_place
  none-from_authentic h = no-fault (auth_tlv pdu header) h.0 h.1

  abbrev Case : Option AuthFault → Type 0
  Case None = IsAuthentic key pdu header
  Case (Some fault) = AuthCause key pdu header fault

  -- one of the cases holds
  some-case : (found : Option TlvView) → auth_tlv pdu header ≡ found → Case (fault_of found)
  some-case None is = is
  some-case (Some tlv) is =
      let test = hmac-Decides tlv in
      let body = body-Decides pdu header in
      let digest = digest-Decides key pdu (tlv.place + 3) in
      elim (hmac_test tlv) as (λ t. hmac_test tlv ≡ t → Case (fault_of (Some tlv))) [
        | false ↦ λ et. subst Case (sym (fault-is_some tlv false _ _ et refl refl)) (subst (λ (o : Option TlvView). IsSomeAnd o (λ it. ¬ IsHmac it)) (sym is) (λ h. cc))
        | true ↦ λ et. elim (has_purge_body pdu header) as (λ b. has_purge_body pdu header ≡ b → Case (fault_of (Some tlv))) [
          | true ↦ λ eb. subst Case (sym (fault-is_some tlv true true _ et eb refl)) (subst (λ (o : Option TlvView). IsSomeAnd o IsHmac) (sym is) (test.0 et), body.0 eb)
          | false ↦ λ eb. elim (has_digest key pdu (tlv.place + 3)) as (λ d. has_digest key pdu (tlv.place + 3) ≡ d → Case (fault_of (Some tlv))) [
            | true ↦ λ ed. subst Case (sym (fault-is_some tlv true false true et eb ed)) (subst (λ (o : Option TlvView). IsSomeAnd o (λ it. IsHmac it × HasDigest key pdu (it.place + 3))) (sym is) (test.0 et, digest.0 ed), λ h. let yes_b = body.1 h in cc)
            | false ↦ λ ed. subst Case (sym (fault-is_some tlv true false false et eb ed)) (subst (λ (o : Option TlvView). IsSomeAnd o (λ it. IsHmac it × ¬ HasDigest key pdu (it.place + 3))) (sym is) (test.0 et, λ h. let yes_d = digest.1 h in cc), λ h. let yes_b = body.1 h in cc)
          ] refl
        ] refl
      ] refl

  case-of_fault : Case (auth_fault key pdu header)
  unfolding auth_fault digest_place
  case-of_fault = some-case (auth_tlv pdu header) refl

  module _ (result : Result (Unit {0}) AuthFault) (value : result_err result ≡ auth_fault key pdu header) where
    err-is : (fault : AuthFault) (r : Result (Unit {0}) AuthFault) → result_err r ≡ Some fault → r ≡ Err fault
    err-is fault (Ok u) e = cc
    err-is fault (Err other) e = cc

    ok-is : (r : Result (Unit {0}) AuthFault) → result_err r ≡ None → IsOk r
    ok-is (Ok u) e = refl
    ok-is (Err other) e = cc

    none-is : (r : Result (Unit {0}) AuthFault) → IsOk r → result_err r ≡ None
    none-is (Ok u) e = refl
    none-is (Err other) e = cc

    pub cause-iff : (fault : AuthFault) → (result ≡ Err fault) ↔ AuthCause key pdu header fault
    cause-iff fault = (
      (λ is. subst Case (sym value ∙ ap result_err is) case-of_fault),
      (λ h. err-is fault result (value ∙ fault-from_cause fault h)),
    )

    pub ok-iff : IsOk result ↔ IsAuthentic key pdu header
    ok-iff = (
      (λ is. subst Case (sym value ∙ none-is result is) case-of_fault),
      (λ h. ok-is result (value ∙ none-from_authentic h)),
    )
