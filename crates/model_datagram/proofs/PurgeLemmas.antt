-- Purges read back.
use Rattle.std.proofs.Common.{◌≡◌, ◌∙◌, ℕ, ◌+◌, ◌*◌, ◌/◌, ◌%◌, ◌^◌, ◌<◌, ◌≤◌, List, [], ◌∷◌, ◌++◌, length, take, cond, eqb, ltb, not, ◌&&◌, Bool, true, false, is_none, Option, Some, None, Result, refl, sym, ap, subst, arith, take_all, append-nil, length-append}
use Rattle.std.specs.List.{list_any}
use Rattle.std.specs.Result.{ok_prefix}
use Rattle.std.proofs.lemmas.Bool.{le-leb, eqb-true, ne_eqb, not_from_false}
use Rattle.std.proofs.lemmas.List.{drop_at}
use Rattle.isis_base.specs.declared.identifiers.LspId.{LspId}
use Rattle.isis_base.specs.declared.level.Level.{Level}
use Rattle.isis_base.specs.declared.pdu_kind.PduKind.TheVariants as kind
use Rattle.isis_base.specs.Fields.{u16_octets}
use Rattle.isis_tlv.specs.declared.tlv.TlvFault.{TlvFault}
use Rattle.isis_tlv.specs.Framed.{IsPdu}
use Rattle.isis_tlv.specs.Tlvs.{TlvView, tlv_list}
use Rattle.isis_tlv.proofs.TlvLemmas.{tlvs-end, tlvs-tlv, tlvs-one}
use Rattle.isis_pdu.specs.Views.{PduView, LanHello, PointHello, Lsp, Csnp, Psnp}
use Rattle.isis_pdu.specs.Layout.{value_at, body_at}
use Rattle.isis_pdu.specs.Reading.{Begins}
use Rattle.isis_pdu.proofs.FrameLemmas as frames
use Rattle.hmac_auth.specs.Pdus.{is_purge, with_piece, blanked}
use Rattle.hmac_auth.specs.Auth.{has_others, has_purge_body, auth_fault}
use Rattle.hmac_auth.specs.declared.fault.AuthFault.TheVariants.{PurgeBody}
use Rattle.hmac_auth.proofs.HmacLemmas.{length-hmac}
use Rattle.model_router.specs.Both.{at}
use Rattle.model_router.specs.Ranks.{is_live}
use Rattle.model_router.specs.Cells.{Cell}
use Rattle.model_router.specs.Configs.{Config}
use Rattle.model_router.specs.Routers.{Circuit}
use Rattle.model_router.specs.Datagrams as sent
use Rattle.model_router.specs.Events.{LspHeard}
use Rattle.model_router.specs.Numbers.{lsp_id}
use Rattle.model_datagram.specs.Frames.{framed}
use Rattle.model_datagram.specs.Tests.{tests_of, passes}
use Rattle.model_datagram.specs.Reading.{message, refused_or, read}
use Rattle.model_datagram.specs.Signing.{auth_octets, digest_of}
use Rattle.model_datagram.specs.Lsps.{with_lifetime, signed_purge, lsp_sent}
use Rattle.model_datagram.specs.Datagrams.{datagram, pdu_octets}
use Rattle.model_datagram.specs.Said.{envelope, said, CanRead}
use Rattle.model_datagram.specs.LspLaws.{IsPurge}
use Rattle.model_datagram.proofs.ListLemmas.{of-exactly}
use Rattle.model_datagram.proofs.NumberLemmas.{lsp-reads_back}
use Rattle.model_datagram.proofs.ReadLemmas.{read-begins, all-hold}
use Rattle.model_datagram.proofs.AuthLemmas.{blank, signed-fault}

-- a PDU with other TLVs, where it is an LSP
with_body : List ℕ → PduView → PduView
with_body body (LanHello level circuit_type source holding priority lan tlvs) = LanHello level circuit_type source holding priority lan tlvs
with_body body (PointHello circuit_type source holding circuit tlvs) = PointHello circuit_type source holding circuit tlvs
with_body body (Lsp level lifetime id number checksum flags tlvs) = Lsp level lifetime id number checksum flags body
with_body body (Csnp level source start end tlvs) = Csnp level source start end tlvs
with_body body (Psnp level source tlvs) = Psnp level source tlvs

abbrev sized : List ℕ → List ℕ
sized header = with_piece 8 (u16_octets 46) header

sized-length : (header : List ℕ) → length header ≡ 27 → length (sized header) ≡ 27
sized-length header = of-exactly 27 (λ header. length (sized header) ≡ 27)
    (λ a b c d e f g h j k l m n o p q r s t u v w x y z aa bb. refl) header

module _ (level : Level) (id : LspId) (number flags : ℕ) where
  abbrev purge : List ℕ → PduView
  purge tlvs = Lsp level 0 id number 0 flags tlvs

  -- a header with the authentication behind it
  begins-signed : (digest header : List ℕ) → length digest ≡ 16 → length header ≡ 27 → Begins header (purge []) 27 → Begins (sized header ++ auth_octets digest) (purge (auth_octets digest)) 46
  unfolding with_body
  begins-signed digest header sixteen long = of-exactly 27 (λ header. Begins header (purge []) 27 → Begins (sized header ++ auth_octets digest) (purge (auth_octets digest)) 46)
      (λ a b c d e f g h j k l m n o p q r s t u v w x y z aa bb (reads, within).
      let xs : List ℕ = a ∷ b ∷ c ∷ d ∷ e ∷ f ∷ g ∷ h ∷ j ∷ k ∷ l ∷ m ∷ n ∷ o ∷ p ∷ q ∷ r ∷ s ∷ t ∷ u ∷ v ∷ w ∷ x ∷ y ∷ z ∷ aa ∷ bb ∷ [] in
      let body : take 19 (auth_octets digest) ≡ auth_octets digest = take_all 19 (auth_octets digest) (omega arith) in (
        record {
          discriminator = reads.discriminator;
          header = reads.header;
          version = reads.version;
          id_length = reads.id_length;
          kind = reads.kind;
          other_version = reads.other_version;
          areas = reads.areas;
          circuit_type = λ hello. cc;
          size = refl;
          least = omega arith;
          value =
              ap (λ (tlvs : List ℕ). with_body tlvs (value_at (kind.Lsp level) xs (body_at (kind.Lsp level) xs 27))) body
              ∙ ap (with_body (auth_octets digest)) reads.value;
          tlvs = tlvs-one 10 (54 ∷ digest);
        },
        omega arith,
      ))
      header long

-- ---- authentication of a purge

and-false : (b : Bool) → (b && false) ≡ false
and-false true = refl
and-false false = refl

no-others : (front : List ℕ) → length front ≡ 27 → has_others (front ++ auth_octets blank) 27 ≡ false
no-others front long =
    ap (λ (tlvs : List ℕ). list_any (λ tlv. not (eqb tlv.code 10)) (tlv_list 27 tlvs)) (drop_at front (auth_octets blank) 27 long)
    ∙ ap (λ (items : List (Result TlvView TlvFault)). list_any (λ tlv. not (eqb tlv.code 10)) (ok_prefix items)) (tlvs-tlv 27 10 (54 ∷ blank) [])
    ∙ ap (λ (items : List (Result TlvView TlvFault)). list_any (λ tlv. not (eqb tlv.code 10)) (ok_prefix items)) (tlvs-end 46)

purge-passes : (key front : List ℕ) → length front ≡ 27 → IsPdu (front ++ auth_octets blank) 27 → auth_fault key (front ++ auth_octets (digest_of key 27 (front ++ auth_octets blank))) 27 ≡ None
unfolding has_purge_body
purge-passes key front long pdu =
    let nil : (d : List ℕ) → auth_octets d ++ [] ≡ auth_octets d = λ d. append-nil (auth_octets d) in
    let digest = digest_of key 27 (front ++ auth_octets blank) in
    ap (λ (octets : List ℕ). auth_fault key (front ++ octets) 27) (sym (nil digest))
    ∙ signed-fault front [] 27 long key pdu
    ∙ ap (λ (t : Bool). cond t (Some PurgeBody) None)
    (ap (λ (t : Bool). is_purge (front ++ auth_octets blank) && t) (no-others front long) ∙ and-false (is_purge (front ++ auth_octets blank)))

-- ---- purges

purge-rank : (rank : ℕ) → eqb (rank % 2) 1 ≡ true → rank % 2 ≡ 1
purge-rank rank is = eqb-true (rank % 2) 1 is

not-live : (rank : ℕ) → rank % 2 ≡ 1 → is_live rank ≡ false
not-live rank odd = ap (λ (t : Bool). ltb 0 rank && t) (ne_eqb (rank % 2) 0 (λ e. omega arith)) ∙ and-false (ltb 0 rank)

-- the octets of a purge that is sent, as they read
pub record IsSentPurge (key : Option (List ℕ)) (level : Level) (id : LspId) (number flags : ℕ) (octets : List ℕ) : Type 0 where
  pub tlvs : List ℕ
  pub begins : Begins octets (Lsp level 0 id number 0 flags tlvs) (length octets)
  pub short : length octets ≤ 1492
  pub passes : passes key octets 27 ≡ true

sent-purge : (key : Option (List ℕ)) (level : Level) (id : LspId) (number flags : ℕ) (header : List ℕ) → length header ≡ 27 → Begins header (Lsp level 0 id number 0 flags []) 27 → IsSentPurge key level id number flags (signed_purge key header)
sent-purge None level id number flags header long begins = record {
  tlvs = [];
  begins = subst (λ (n : ℕ). Begins header (Lsp level 0 id number 0 flags []) n) (sym long) begins;
  short = omega arith;
  passes = refl;
}
sent-purge (Some key) level id number flags header long begins =
    let front = sized header in
    let size = sized-length header long in
    let digest = digest_of key 27 (front ++ auth_octets blank) in
    let sixteen : length digest ≡ 16 = length-hmac key (blanked (front ++ auth_octets blank) 30) in
    let octets = front ++ auth_octets digest in
    let all : length octets ≡ 46 = let both = length-append front (auth_octets digest) in omega arith in
    let blank_size : length (front ++ auth_octets blank) ≡ 46 = let both = length-append front (auth_octets blank) in omega arith in
    let pdu = subst (λ (whole : List ℕ). IsPdu whole 27) (take_all 46 (front ++ auth_octets blank) (omega arith))
    (frames.framed (front ++ auth_octets blank) (Lsp level 0 id number 0 flags (auth_octets blank)) 46 (begins-signed level id number flags blank header refl long begins)) in
    record {
      tlvs = auth_octets digest;
      begins = subst (λ (n : ℕ). Begins octets (Lsp level 0 id number 0 flags (auth_octets digest)) n) (sym all) (begins-signed level id number flags digest header sixteen long begins);
      short = omega arith;
      passes = ap is_none (purge-passes key front size pdu);
    }

pub purge-reads : (by config : Config) (on c : Circuit) (boot place : ℕ) → boot < 2 ^ 32 → (level : Level) (id : ℕ) (cell : Cell) → config.system < 2 ^ 48 → IsPurge level id cell → CanRead by on config c (kind.Lsp level) → read by on (datagram config boot place c (sent.Lsp level id cell)) ≡ said by.system config boot place c (sent.Lsp level id cell)
unfolding pdu_octets lsp_sent
purge-reads by config on c boot place low_boot level id cell small is takes =
    let key = at config.keys level in
    let octets = signed_purge key cell.octets in
    let sent = sent-purge key level (lsp_id id) (cell.rank / 2) cell.flags cell.octets is.alone is.begins in
    let pdu = Lsp level 0 (lsp_id id) (cell.rank / 2) 0 cell.flags sent.tlvs in
    let odd = purge-rank cell.rank is.purge in
    let some = is.some in
    let dead = not-live cell.rank odd in
    let short = sent.short in
    let auth = ap (λ (k : Option (List ℕ)). passes k octets 27) takes.key ∙ sent.passes in
    let number : not (eqb (cell.rank / 2) 0) ≡ true = not_from_false (eqb (cell.rank / 2) 0) (ne_eqb (cell.rank / 2) 0 (λ e. omega arith)) in
    let none = all-hold (tests_of by on pdu octets) (le-leb (length octets) 1492 short, (takes.goes, (takes.runs, (auth, (refl, (number, (refl, tt))))))) in
    let id_is = lsp-reads_back id is.eight in
    let rank_is : 2 * (cell.rank / 2) + 1 ≡ cell.rank = omega arith in
    let left_is : 0 ≡ cond (is_live cell.rank) cell.left 0 = ap (λ (t : Bool). cond t cell.left 0) (sym dead) in
    let sent_is : octets ≡ cond (is_live cell.rank) (with_lifetime cell.left cell.octets) octets = ap (λ (t : Bool). cond t (with_lifetime cell.left cell.octets) octets) (sym dead) in
    ap (λ (it : List ℕ). read by on (framed config.system boot it)) (sym sent_is)
    ∙ read-begins by on config.system boot octets pdu small low_boot sent.begins
    ∙ ap (λ cause. refused_or cause (message by.system (envelope config boot) pdu octets)) none
    ∙ (λ i. LspHeard level (envelope config boot) (record { id = id_is i; rank = rank_is i; checksum = sym is.summed i; flags = cell.flags; left = left_is i; octets = sent_is i }))
