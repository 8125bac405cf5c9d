-- Live LSPs read back.
use Rattle.std.proofs.Common.{◌≡◌, ◌∙◌, ℕ, ◌+◌, ◌-◌, ◌*◌, ◌/◌, ◌%◌, ◌^◌, ◌<◌, ◌≤◌, List, [], ◌∷◌, ◌++◌, length, take, drop, replicate, cond, eqb, ltb, not, ◌&&◌, ◌||◌, Bool, true, false, is_none, bytes_eq, Option, Some, None, Result, Ok, Err, refl, sym, ap, subst, arith}
use Rattle.std.proofs.Math.Seq.{drop-append-add}
use Rattle.std.proofs.lemmas.Bool.{le-leb, ltb-true, eqb-true, ne_eqb, and_parts, and_from, not_from_false, or_right}
use Rattle.isis_base.specs.declared.level.Level.{Level}
use Rattle.isis_base.specs.declared.level.Level.TheVariants as level
use Rattle.isis_base.specs.declared.identifiers.LspId.{LspId}
use Rattle.isis_base.specs.declared.pdu_kind.PduKind.TheVariants as kind
use Rattle.std.specs.Prelude.{find}
use Rattle.isis_base.specs.PduKinds.{type_number}
use Rattle.isis_base.specs.Fields.{u16_at, u16_octets}
use Rattle.isis_tlv.specs.Tlvs.{tlv_list}
use Rattle.model_datagram.specs.Frames.{framed}
use Rattle.isis_pdu.specs.Views.{PduView, LanHello, PointHello, Lsp, Csnp, Psnp}
use Rattle.isis_pdu.specs.Layout.{body_at, value_at}
use Rattle.isis_pdu.specs.Reading.{Begins}
use Rattle.iso_checksum.specs.Checksum.{checksum_holds}
use Rattle.hmac_auth.specs.Hmac.{hmac}
use Rattle.hmac_auth.specs.Pdus.{is_lsp, is_purge, blanked}
use Rattle.hmac_auth.specs.Auth.{place_in, digest_place, has_others, has_purge_body, has_digest, fault_at, auth_fault}
use Rattle.hmac_auth.specs.declared.fault.AuthFault.{AuthFault}
use Rattle.hmac_auth.specs.declared.fault.AuthFault.TheVariants.{PurgeBody, Wrong}
use Rattle.hmac_auth.proofs.MessageLemmas.{blanked-lsp}
use Rattle.hmac_auth.proofs.PlaceLemmas.{is_auth, digest-within}
use Rattle.model_router.specs.Both.{at}
use Rattle.model_router.specs.Ranks.{is_live}
use Rattle.model_router.specs.Cells.{Cell}
use Rattle.model_router.specs.Configs.{Config}
use Rattle.model_router.specs.Routers.{Circuit}
use Rattle.model_router.specs.Datagrams as sent
use Rattle.model_router.specs.Events.{LspHeard}
use Rattle.model_router.specs.Numbers.{lsp_id}
use Rattle.model_datagram.specs.Tests.{tests_of, passes}
use Rattle.model_datagram.specs.Reading.{rank_read, message, refused_or, read}
use Rattle.model_datagram.specs.Lsps.{with_lifetime, signed_purge, lsp_sent}
use Rattle.model_datagram.specs.Datagrams.{datagram, pdu_octets}
use Rattle.model_datagram.specs.Said.{envelope, said, CanRead}
use Rattle.model_datagram.specs.LspLaws.{IsLiveLsp}
use Rattle.model_datagram.proofs.ListLemmas.{of-leading}
use Rattle.model_datagram.proofs.NumberLemmas.{lsp-reads_back, high-reads_back}
use Rattle.model_datagram.proofs.ReadLemmas.{read-begins, all-hold}

-- ---- octets with another lifetime

-- a PDU with another lifetime, where it is an LSP
relived : ℕ → PduView → PduView
relived n (LanHello level circuit_type source holding priority lan tlvs) = LanHello level circuit_type source holding priority lan tlvs
relived n (PointHello circuit_type source holding circuit tlvs) = PointHello circuit_type source holding circuit tlvs
relived n (Lsp level lifetime id number checksum flags tlvs) = Lsp level n id number checksum flags tlvs
relived n (Csnp level source start end tlvs) = Csnp level source start end tlvs
relived n (Psnp level source tlvs) = Psnp level source tlvs

module _ (level : Level) (old new : ℕ) (id : LspId) (number checksum flags : ℕ) (tlvs : List ℕ) (fits : new < 65536) where
  abbrev lsp : ℕ → PduView
  lsp lifetime = Lsp level lifetime id number checksum flags tlvs

  begins-with : (octets : List ℕ) (n : ℕ) → 12 ≤ length octets → Begins octets (lsp old) n → Begins (with_lifetime new octets) (lsp new) n
  unfolding relived
  begins-with octets n = of-leading 12 (λ octets. Begins octets (lsp old) n → Begins (with_lifetime new octets) (lsp new) n)
      (λ a b c d e f g h j k l m rest (reads, within). (
        record {
          discriminator = reads.discriminator;
          header = reads.header;
          version = reads.version;
          id_length = reads.id_length;
          kind = reads.kind;
          other_version = reads.other_version;
          areas = reads.areas;
          circuit_type = reads.circuit_type;
          size = reads.size;
          least = reads.least;
          value =
              let xs : List ℕ = a ∷ b ∷ c ∷ d ∷ e ∷ f ∷ g ∷ h ∷ j ∷ k ∷ l ∷ m ∷ rest in
              ap (λ (lifetime : ℕ). relived lifetime (value_at (kind.Lsp level) xs (body_at (kind.Lsp level) xs n))) (high-reads_back new fits)
              ∙ ap (relived new) reads.value;
          tlvs = reads.tlvs;
        },
        within,
      ))
      octets

same-length : (octets : List ℕ) (new : ℕ) → 12 ≤ length octets → length (with_lifetime new octets) ≡ length octets
same-length octets new = of-leading 12 (λ octets. length (with_lifetime new octets) ≡ length octets) (λ a b c d e f g h j k l m rest. refl) octets

same-body : (octets : List ℕ) (new : ℕ) → 12 ≤ length octets → drop 12 (with_lifetime new octets) ≡ drop 12 octets
same-body octets new = of-leading 12 (λ octets. drop 12 (with_lifetime new octets) ≡ drop 12 octets) (λ a b c d e f g h j k l m rest. refl) octets

same-later : (octets : List ℕ) (new n : ℕ) → 12 ≤ length octets → 12 ≤ n → drop n (with_lifetime new octets) ≡ drop n octets
same-later octets new n long after = of-leading 12 (λ octets. drop n (with_lifetime new octets) ≡ drop n octets)
    (λ a b c d e f g h j k l m rest.
    let split : n ≡ 12 + (n - 12) = omega arith in
    let lifetime = u16_octets new in
    ap (λ (it : ℕ). drop it (with_lifetime new (a ∷ b ∷ c ∷ d ∷ e ∷ f ∷ g ∷ h ∷ j ∷ k ∷ l ∷ m ∷ rest))) split
    ∙ drop-append-add (a ∷ b ∷ c ∷ d ∷ e ∷ f ∷ g ∷ h ∷ j ∷ k ∷ lifetime) rest (n - 12)
    ∙ sym (drop-append-add (a ∷ b ∷ c ∷ d ∷ e ∷ f ∷ g ∷ h ∷ j ∷ k ∷ l ∷ m ∷ []) rest (n - 12))
    ∙ ap (λ (it : ℕ). drop it (a ∷ b ∷ c ∷ d ∷ e ∷ f ∷ g ∷ h ∷ j ∷ k ∷ l ∷ m ∷ rest)) (sym split))
    octets long

same-lsp : (octets : List ℕ) (new : ℕ) → 12 ≤ length octets → is_lsp (with_lifetime new octets) ≡ is_lsp octets
same-lsp octets new = of-leading 12 (λ octets. is_lsp (with_lifetime new octets) ≡ is_lsp octets) (λ a b c d e f g h j k l m rest. refl) octets

same-first : (octets : List ℕ) (new : ℕ) → 12 ≤ length octets → take 10 (with_lifetime new octets) ≡ take 10 octets
same-first octets new = of-leading 12 (λ octets. take 10 (with_lifetime new octets) ≡ take 10 octets) (λ a b c d e f g h j k l m rest. refl) octets

-- ---- authentication doesn't look at the lifetime

module _ (key octets : List ℕ) (new : ℕ) (long : 27 ≤ length octets) (lsp : is_lsp octets ≡ true) where
  abbrev other : List ℕ
  other = with_lifetime new octets

  same-message : (place : ℕ) → 30 ≤ place → place + 16 ≤ length octets → blanked other place ≡ blanked octets place
  same-message place behind within =
      let first = same-first octets new (omega arith) in
      let size = same-length octets new (omega arith) in
      let middle = same-later octets new 12 (omega arith) (omega arith) in
      let after = same-later octets new 26 (omega arith) (omega arith) in
      let last = same-later octets new (place + 16) (omega arith) (omega arith) in
      sym (blanked-lsp other place (same-lsp octets new (omega arith) ∙ lsp) (omega arith) (omega arith))
      ∙ (λ i. first i ++ (replicate 2 0 ++ (take 12 (middle i) ++ (replicate 2 0 ++ (take (place - 26) (after i) ++ (replicate 16 0 ++ (take (size i - (place + 16)) (last i) ++ [])))))))
      ∙ blanked-lsp octets place lsp (omega arith) within

  same-digest : (place : ℕ) → 30 ≤ place → place + 16 ≤ length octets → has_digest key other place ≡ has_digest key octets place
  unfolding has_digest
  same-digest place behind within =
      let message = same-message place behind within in
      let there = same-later octets new place (omega arith) (omega arith) in
      (λ i. bytes_eq (hmac key (message i)) (take 16 (there i)))

  same-place : digest_place other 27 ≡ digest_place octets 27
  unfolding digest_place
  same-place =
      let body = same-later octets new 27 (omega arith) (omega arith) in
      ap (λ (tlvs : List ℕ). place_in (find is_auth (tlv_list 27 tlvs))) body

  same-by-place : is_purge octets ≡ false → is_purge other ≡ false → (found : Result ℕ AuthFault) → digest_place octets 27 ≡ found → fault_at key other 27 found ≡ fault_at key octets 27 found
  unfolding has_purge_body
  same-by-place lives still (Err fault) is = refl
  same-by-place lives still (Ok place) is =
      let there = digest-within octets 27 place long is in
      let digest = same-digest place there.0 there.1 in
      (λ i. cond (still i && has_others other 27) (Some PurgeBody) (cond (digest i) None (Some Wrong)))
      ∙ (λ i. cond (sym lives i && has_others octets 27) (Some PurgeBody) (cond (has_digest key octets place) None (Some Wrong)))

  same-fault : is_purge octets ≡ false → is_purge other ≡ false → auth_fault key other 27 ≡ auth_fault key octets 27
  unfolding auth_fault
  same-fault lives still =
      ap (fault_at key other 27) same-place
      ∙ same-by-place lives still (digest_place octets 27) refl

same-passes : (key : Option (List ℕ)) (octets : List ℕ) (new : ℕ) → 27 ≤ length octets → is_lsp octets ≡ true → is_purge octets ≡ false → is_purge (with_lifetime new octets) ≡ false → passes key (with_lifetime new octets) 27 ≡ passes key octets 27
same-passes None octets new long lsp lives still = refl
same-passes (Some key) octets new long lsp lives still = ap is_none (same-fault key octets new long lsp lives still)

-- ---- what octets that read as an LSP are

lsp-type : (level : Level) (n : ℕ) → n ≡ type_number (kind.Lsp level) → (eqb n 18 || eqb n 20) ≡ true
lsp-type level.One n is = ap (λ (m : ℕ). eqb m 18 || eqb m 20) is
lsp-type level.Two n is = ap (λ (m : ℕ). eqb m 18 || eqb m 20) is

begins-lsp : (octets : List ℕ) (level : Level) (lifetime : ℕ) (id : LspId) (number checksum flags : ℕ) (tlvs : List ℕ) (n : ℕ) → Begins octets (Lsp level lifetime id number checksum flags tlvs) n → is_lsp octets ≡ true
begins-lsp octets level lifetime id number checksum flags tlvs n begins = lsp-type level _ begins.0.kind

lifetime_of : PduView → ℕ
lifetime_of (LanHello level circuit_type source holding priority lan tlvs) = 0
lifetime_of (PointHello circuit_type source holding circuit tlvs) = 0
lifetime_of (Lsp level lifetime id number checksum flags tlvs) = lifetime
lifetime_of (Csnp level source start end tlvs) = 0
lifetime_of (Psnp level source tlvs) = 0

begins-lives : (octets : List ℕ) (level : Level) (lifetime : ℕ) (id : LspId) (number checksum flags : ℕ) (tlvs : List ℕ) (n : ℕ) → 0 < lifetime → Begins octets (Lsp level lifetime id number checksum flags tlvs) n → is_purge octets ≡ false
unfolding lifetime_of
begins-lives octets level lifetime id number checksum flags tlvs n some begins =
    let lsp = begins-lsp octets level lifetime id number checksum flags tlvs n begins in
    let is : u16_at 10 octets ≡ lifetime = ap lifetime_of begins.0.value in
    let zero : eqb (u16_at 10 octets) 0 ≡ false = ne_eqb (u16_at 10 octets) 0 (λ e. omega arith) in
    (λ i. lsp i && zero i)

-- ---- live LSPs

live-rank : (rank : ℕ) → is_live rank ≡ true → (0 < rank) × (rank % 2 ≡ 0)
live-rank rank live =
    let parts = and_parts (ltb 0 rank) (eqb (rank % 2) 0) live in
    (ltb-true 0 rank parts.0, eqb-true (rank % 2) 0 parts.1)

pub lsp-reads : (by config : Config) (on c : Circuit) (boot place : ℕ) → boot < 2 ^ 32 → (level : Level) (id : ℕ) (cell : Cell) → config.system < 2 ^ 48 → IsLiveLsp (at config.keys level) level id cell → CanRead by on config c (kind.Lsp level) → read by on (datagram config boot place c (sent.Lsp level id cell)) ≡ said by.system config boot place c (sent.Lsp level id cell)
unfolding pdu_octets lsp_sent
lsp-reads by config on c boot place low_boot level id cell small is takes =
    let key = at config.keys level in
    let tells = is.tells in
    let old = cell.octets in
    let octets = with_lifetime cell.left old in
    let pdu = λ (lifetime : ℕ). Lsp level lifetime (lsp_id id) (cell.rank / 2) cell.checksum cell.flags tells.tlvs in
    let least : 27 ≤ length old = tells.begins.0.least in
    let left = is.left in
    let begins = begins-with level tells.lifetime cell.left (lsp_id id) (cell.rank / 2) cell.checksum cell.flags tells.tlvs is.fits old (length old) (omega arith) tells.begins in
    let size = same-length old cell.left (omega arith) in
    let whole : Begins octets (pdu cell.left) (length octets) = subst (λ (n : ℕ). Begins octets (pdu cell.left) n) (sym size) begins in
    let lsp = begins-lsp old level tells.lifetime (lsp_id id) (cell.rank / 2) cell.checksum cell.flags tells.tlvs (length old) tells.begins in
    let lives = begins-lives old level tells.lifetime (lsp_id id) (cell.rank / 2) cell.checksum cell.flags tells.tlvs (length old) tells.lives tells.begins in
    let still = begins-lives octets level cell.left (lsp_id id) (cell.rank / 2) cell.checksum cell.flags tells.tlvs (length octets) left whole in
    let rank = live-rank cell.rank is.live in
    let short = tells.short in
    let auth = ap (λ (k : Option (List ℕ)). passes k octets 27) takes.key ∙ same-passes key old cell.left least lsp lives still ∙ tells.authentic in
    let number : not (eqb (cell.rank / 2) 0) ≡ true = not_from_false (eqb (cell.rank / 2) 0) (ne_eqb (cell.rank / 2) 0 (λ e. omega (arith, rank.0, rank.1))) in
    let some : not (eqb cell.checksum 0) ≡ true = not_from_false (eqb cell.checksum 0) (ne_eqb cell.checksum 0 (λ e. let positive = tells.some in omega arith)) in
    let sums : checksum_holds (drop 12 octets) ≡ true = ap checksum_holds (same-body old cell.left (omega arith)) ∙ tells.summed in
    let summed = or_right (eqb cell.left 0) (not (eqb cell.checksum 0) && checksum_holds (drop 12 octets)) (and_from _ _ some sums) in
    let none = all-hold (tests_of by on (pdu cell.left) octets) (le-leb (length octets) 1492 (omega arith), (takes.goes, (takes.runs, (auth, (refl, (number, (summed, tt))))))) in
    let id_is = lsp-reads_back id is.eight in
    let nonzero : eqb cell.left 0 ≡ false = ne_eqb cell.left 0 (λ e. omega arith) in
    let rank_is : rank_read (cell.rank / 2) cell.left ≡ cell.rank =
    ap (λ (t : Bool). cond t (2 * (cell.rank / 2) + 1) (2 * (cell.rank / 2))) nonzero ∙ (let twice : 2 * (cell.rank / 2) ≡ cell.rank = omega (arith, rank.1) in twice) in
    let live = is.live in
    let left_is : cell.left ≡ cond (is_live cell.rank) cell.left 0 = ap (λ (t : Bool). cond t cell.left 0) (sym live) in
    let sent_is : octets ≡ cond (is_live cell.rank) octets (signed_purge key old) = ap (λ (t : Bool). cond t octets (signed_purge key old)) (sym live) in
    ap (λ (sent : List ℕ). read by on (framed config.system boot sent)) (sym sent_is)
    ∙ read-begins by on config.system boot octets (pdu cell.left) small low_boot whole
    ∙ ap (λ cause. refused_or cause (message by.system (envelope config boot) (pdu cell.left) octets)) none
    ∙ (λ i. LspHeard level (envelope config boot) (record { id = id_is i; rank = rank_is i; checksum = cell.checksum; flags = cell.flags; left = left_is i; octets = sent_is i }))
