-- What is issued tells itself.
use Rattle.std.proofs.Common.{◌≡◌, ℕ, ◌+◌, ◌*◌, ◌/◌, ◌%◌, ◌^◌, ◌<◌, ◌≤◌, List, [], ◌++◌, length, drop, replicate, Bool, true, false, Option, Some, None, refl, ap, subst, arith}
use Rattle.isis_base.specs.declared.level.Level.{Level}
use Rattle.isis_base.specs.declared.level.Level.TheVariants as level
use Rattle.isis_base.specs.declared.pdu_kind.PduKind.{PduKind}
use Rattle.isis_base.specs.declared.pdu_kind.PduKind.TheVariants as kind
use Rattle.isis_pdu.specs.Views.{PduView, Lsp}
use Rattle.isis_pdu.specs.Reading.{Begins}
use Rattle.isis_pdu.specs.Spelling.{start_octets, field_octets, octets_of_pdu, IsWritable}
use Rattle.iso_checksum.specs.Checksum.{checksum_holds, with_pair}
use Rattle.hmac_auth.specs.Hmac.{hmac}
use Rattle.hmac_auth.specs.Pdus.{is_purge, blanked}
use Rattle.model_router.specs.Both.{at}
use Rattle.model_router.specs.Routers.{Contents, Router}
use Rattle.model_router.specs.OwnLsps.{issue_cell}
use Rattle.model_router.specs.Good.{IsGoodGiven}
use Rattle.model_router.specs.Numbers.{lsp_id}
use Rattle.model_datagram.specs.Tests.{passes}
use Rattle.model_datagram.specs.Signing.{auth_octets, signed_tlvs}
use Rattle.model_datagram.specs.Lsps.{issued_with, issued_tlvs, issued_checksum, issued_pdu, given_octets}
use Rattle.model_datagram.specs.LspLaws.{TellsLive}
use Rattle.model_router.specs.Good.{IsIssuable}
use Rattle.model_datagram.proofs.ReadLemmas.{octets_of_pdu-begins}
use Rattle.model_datagram.proofs.AuthLemmas.{IsHead, signed-length, signed-are, signed-passes}
use Rattle.model_datagram.proofs.CheckLemmas.{checksum-in_range, checksum-holds}

issued-lives : (level : Level) (id number flags checksum : ℕ) (tlvs : List ℕ) → is_purge (octets_of_pdu (issued_with level id number flags checksum tlvs)) ≡ false
issued-lives level.One id number flags checksum tlvs = refl
issued-lives level.Two id number flags checksum tlvs = refl

issued-head : (level : Level) (id number flags checksum : ℕ) → number < 2 ^ 32 → checksum < 2 ^ 16 → IsHead (kind.Lsp level) (issued_with level id number flags checksum)
issued-head level id number flags checksum small fits = record {
  front = λ size. start_octets (kind.Lsp level) ++ field_octets (issued_with level id number flags checksum []) (27 + size);
  long = λ size. refl;
  spells = λ tlvs. refl;
  typed = λ tlvs. refl;
  tlvs = λ tlvs. refl;
  writable = λ tlvs short are. record { fields = (omega arith, refl, small, fits); fits = short; tlvs = are };
  lives = issued-lives level id number flags checksum;
}

-- the digest doesn't look at the checksum
same-blank : (level : Level) (id number flags checksum : ℕ) (tlvs : List ℕ) → blanked (octets_of_pdu (issued_with level id number flags checksum (auth_octets (replicate 16 0) ++ tlvs))) 30 ≡ blanked (octets_of_pdu (issued_with level id number flags 0 (auth_octets (replicate 16 0) ++ tlvs))) 30
unfolding blanked
same-blank level.One id number flags checksum tlvs = refl
same-blank level.Two id number flags checksum tlvs = refl

same-signed : (key : Option (List ℕ)) (level : Level) (id number flags checksum : ℕ) (tlvs : List ℕ) → signed_tlvs key (issued_with level id number flags checksum) tlvs ≡ signed_tlvs key (issued_with level id number flags 0) tlvs
same-signed None level id number flags checksum tlvs = refl
same-signed (Some key) level id number flags checksum tlvs =
    ap (λ (message : List ℕ). auth_octets (hmac key message) ++ tlvs) (same-blank level id number flags checksum tlvs)

issuable-short : (key : Option (List ℕ)) (contents : Contents) → IsIssuable key contents → length contents.tlvs ≤ 1465
issuable-short None contents is = is.short
issuable-short (Some key) contents is = let short = is.short in omega (arith, short)

-- with the authentication it fits the room
issued-room : (kind : PduKind) (pdu : List ℕ → PduView) → IsHead kind pdu → (key : Option (List ℕ)) (contents : Contents) → IsIssuable key contents → length (signed_tlvs key pdu contents.tlvs) ≤ 1465
issued-room kind pdu head None contents is = is.short
issued-room kind pdu head (Some key) contents is =
    let longer = signed-length kind pdu head contents.tlvs is.tlvs (Some key) in
    let short = is.short in
    omega (arith, longer, short)

module _ (key : Option (List ℕ)) (level : Level) (id number : ℕ) (contents : Contents) where
  abbrev its : List ℕ
  its = issued_tlvs key level id number contents

  abbrev sum : ℕ
  sum = issued_checksum key level id number contents

  abbrev octets : List ℕ
  octets = octets_of_pdu (issued_pdu key level id number contents)

  pub issued-in_range : (0 < sum) × (sum < 65536)
  issued-in_range = checksum-in_range (drop 12 (octets_of_pdu (issued_with level id number contents.flags 0 its))) (length its + 2)

  issued-holds : checksum_holds (drop 12 octets) ≡ true
  issued-holds =
      let summed = drop 12 (octets_of_pdu (issued_with level id number contents.flags 0 its)) in
      let fits = issued-in_range.1 in
      let holds = checksum-holds summed 12 (omega arith) refl (length its + 2) (omega arith) in
      let high : sum / 256 ≡ sum / 256 % 256 = omega arith in
      subst (λ (n : ℕ). checksum_holds (with_pair summed 12 n (sum % 256)) ≡ true) high holds

  module _ (fits : number < 2 ^ 32) (is : IsIssuable key contents) where
    issued-authentic : passes key octets 27 ≡ true
    issued-authentic =
        let small = issued-in_range.1 in
        let short = issuable-short key contents is in
        subst (λ (tlvs : List ℕ). passes key (octets_of_pdu (issued_with level id number contents.flags sum tlvs)) 27 ≡ true)
        (same-signed key level id number contents.flags sum contents.tlvs)
        (signed-passes (kind.Lsp level) (issued_with level id number contents.flags sum) (issued-head level id number contents.flags sum fits (omega arith)) contents.tlvs is.tlvs key (omega arith))

    issued-writable : IsWritable (issued_pdu key level id number contents)
    issued-writable =
        let small = issued-in_range.1 in
        let head = issued-head level id number contents.flags 0 fits (omega arith) in
        let longer = issued-room (kind.Lsp level) (issued_with level id number contents.flags 0) head key contents is in
        (issued-head level id number contents.flags sum fits (omega arith)).writable its (omega arith)
        (signed-are (kind.Lsp level) (issued_with level id number contents.flags 0) head contents.tlvs is.tlvs key)

    issued-short : length octets ≤ 1492
    issued-short =
        let head = issued-head level id number contents.flags 0 fits (omega arith) in
        let longer = issued-room (kind.Lsp level) (issued_with level id number contents.flags 0) head key contents is in
        omega arith

pub issue-tells : (leaks : Router → Level → List (ℕ × ℕ)) (attached : Router → Bool) (r : Router) (level : Level) (id number : ℕ) (contents : Contents) → number < 2 ^ 32 → IsIssuable (at r.config.keys level) contents → TellsLive (at r.config.keys level) level id (issue_cell (given_octets leaks attached) r level id number contents)
issue-tells leaks attached r level id number contents fits is =
    let key = at r.config.keys level in
    let sent = octets key level id number contents in
    let half : number ≡ 2 * number / 2 = omega arith in
    record {
      lifetime = 1200;
      tlvs = issued_tlvs key level id number contents;
      begins =
          subst (λ (n : ℕ). Begins sent (Lsp level 1200 (lsp_id id) n (issued_checksum key level id number contents) contents.flags (issued_tlvs key level id number contents)) (length sent)) half
          (octets_of_pdu-begins (issued_pdu key level id number contents) (issued-writable key level id number contents fits is));
      lives = omega arith;
      short = issued-short key level id number contents fits is;
      some = (issued-in_range key level id number contents).0;
      summed = issued-holds key level id number contents;
      authentic = issued-authentic key level id number contents fits is;
    }

pub given-good : (leaks : Router → Level → List (ℕ × ℕ)) (attached : Router → Bool) → IsGoodGiven (given_octets leaks attached)
given-good leaks attached = record {
  header = λ r level id number contents. omega arith;
  summed = λ r level id number contents. (issued-in_range (at r.config.keys level) level id number contents).0;
  word = λ r level id number contents. (issued-in_range (at r.config.keys level) level id number contents).1;
}
