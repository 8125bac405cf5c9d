-- SNPs read back.
use Rattle.std.proofs.Common.{◌≡◌, ◌∙◌, ℕ, ◌+◌, ◌*◌, ◌/◌, ◌%◌, ◌^◌, ◌<◌, ◌≤◌, ltb, List, [], ◌∷◌, ◌++◌, length, map, cond, eqb, leb, ◌&&◌, true, false, is_none, Option, Some, None, refl, ap, arith}
use Rattle.std.specs.List.{AllByRecursion}
use Rattle.std.specs.Result.{ok_prefix}
use Rattle.std.proofs.lemmas.Bool.{le-leb, and_parts}
use Rattle.isis_base.specs.declared.level.Level.{Level}
use Rattle.isis_base.specs.declared.level.Level.TheVariants as level
use Rattle.isis_base.specs.declared.pdu_kind.PduKind.{PduKind}
use Rattle.isis_base.specs.declared.pdu_kind.PduKind.TheVariants as kind
use Rattle.std.proofs.lemmas.Bool.Decides.{nat_tests}
use Rattle.isis_base.specs.declared.identifiers.NodeId.{NodeId}
use Rattle.isis_base.specs.declared.identifiers.LspId.{LspId}
use Rattle.isis_base.specs.PduKinds.{header_length}
use Rattle.isis_base.specs.Keys.{entry_rank}
use Rattle.isis_tlv.specs.Walks.{fault_of}
use Rattle.isis_tlv.specs.Tlvs.{AreTlvs}
use Rattle.isis_tlv.specs.Fits.{IsEntry}
use Rattle.isis_tlv.specs.Items.{entry_at, entries_of}
use Rattle.isis_tlv.specs.Spelling.{entry_octets, entry_value}
use Rattle.isis_tlv.specs.Takes.{entry-takes_one}
use Rattle.isis_tlv.proofs.RoundLemmas.{values-reads_back, entry-reads_back}
use Rattle.isis_pdu.specs.Views.{PduView, Csnp, Psnp, tlvs_of_pdu}
use Rattle.isis_pdu.specs.Layout.{kind_of}
use Rattle.isis_pdu.specs.Spelling.{start_octets, field_octets, octets_of_pdu, IsWritable}
use Rattle.isis_pdu.proofs.RoundLemmas.{length-spelled}
use Rattle.hmac_auth.specs.Pdus.{is_purge}
use Rattle.model_router.specs.Both.{at}
use Rattle.model_router.specs.Configs.{Config}
use Rattle.model_router.specs.Routers.{Circuit}
use Rattle.model_router.specs.SnpTable.{SnpEntry}
use Rattle.model_router.specs.Datagrams as sent
use Rattle.model_router.specs.Events.{SnpHeard}
use Rattle.model_router.specs.Numbers.{node_id, lsp_id, u48_of}
use Rattle.model_datagram.specs.Values.{entries_in, snp_entry}
use Rattle.model_datagram.specs.Tests.{tests_of, passes}
use Rattle.model_datagram.specs.Reading.{message, refused_or, read}
use Rattle.model_datagram.specs.Signing.{signed_tlvs, signed}
use Rattle.model_datagram.specs.Tlvs.{lsp_entry, entry_tlvs}
use Rattle.model_datagram.specs.Datagrams.{datagram, pdu_octets}
use Rattle.model_datagram.specs.Said.{envelope, said, CanRead}
use Rattle.model_datagram.specs.Senders.{IsSender}
use Rattle.model_router.specs.Good.{IsTellable, AreTellable}
use Rattle.model_datagram.proofs.NumberLemmas.{u48-again, lsp-reads_back}
use Rattle.model_datagram.proofs.ReadLemmas.{read-begins, octets_of_pdu-begins, all-hold}
use Rattle.model_datagram.proofs.ItemLemmas.{fine, fine-fault, fine-items, pieces-items, pieces-tlvs, pieces-length}
use Rattle.model_datagram.proofs.AuthLemmas.{IsHead, signed-length, signed-items, signed-passes, signed-writable}

-- ---- entries

is-entry : (h : SnpEntry) → IsTellable h → IsEntry (lsp_entry h)
is-entry h is =
    let rank = is.rank in
    record { lifetime = is.lifetime; system = refl; number = omega arith; checksum = is.checksum }

are-entries : (list : List SnpEntry) → AllByRecursion IsTellable list → AllByRecursion IsEntry (map lsp_entry list)
are-entries [] all = tt
are-entries (h ∷ list) all = (is-entry h all.0, are-entries list all.1)

entries-reads_back : (list : List SnpEntry) → AllByRecursion IsTellable list → entries_of (entry_value (map lsp_entry list)) ≡ fine (map lsp_entry list)
entries-reads_back list all = values-reads_back entry_at entry-takes_one entry_octets IsEntry entry-reads_back 0 (map lsp_entry list) (are-entries list all)

-- an entry of sixteen octets
entries-length : (list : List SnpEntry) → length (entry_value (map lsp_entry list)) ≡ 16 * length list
entries-length [] = omega arith
entries-length (h ∷ list) =
    let rest = entries-length list in
    omega arith

-- the rank of a number and a lifetime
rank-of : (rank lifetime number : ℕ) → number ≡ rank / 2 → (rank ≡ 1 → ⊥) → ((ltb 0 rank && eqb (rank % 2) 0) ≡ true → 0 < lifetime) → ((ltb 0 rank && eqb (rank % 2) 0) ≡ false → lifetime ≡ 0) → cond (ltb 0 number) (2 * number + cond (ltb 0 lifetime) 0 1) 0 ≡ rank
rank-of rank lifetime number half one live purge =
    elim (ltb 0 rank && eqb (rank % 2) 0) as (λ t. ltb 0 rank && eqb (rank % 2) 0 ≡ t → cond (ltb 0 number) (2 * number + cond (ltb 0 lifetime) 0 1) 0 ≡ rank) [
      | true ↦ λ h. let some = live h in let parts = and_parts (ltb 0 rank) (eqb (rank % 2) 0) h in grind (arith, nat_tests, half, some, parts.0, parts.1)
      | false ↦ λ h. let none = purge h in grind (arith, nat_tests, half, none, h, one)
    ] refl

entry-read : (h : SnpEntry) → IsTellable h → snp_entry (lsp_entry h) ≡ h
entry-read h is =
    let id = lsp-reads_back h.id is.id in
    let rank : entry_rank (lsp_entry h) ≡ h.rank = rank-of h.rank h.lifetime (h.rank / 2) refl is.number is.live is.purge in
    (λ i. record { id = id i; rank = rank i; lifetime = h.lifetime; checksum = h.checksum })

entries-read : (list : List SnpEntry) → AllByRecursion IsTellable list → map snp_entry (map lsp_entry list) ≡ list
entries-read [] all = refl
entries-read (h ∷ list) all =
    let first = entry-read h all.0 in
    let rest = entries-read list all.1 in
    (λ i. first i ∷ rest i)

module _ (entries : List SnpEntry) (tellable : AreTellable entries) where
  entry-items : entries_in (entry_tlvs entries) ≡ fine (map lsp_entry entries)
  entry-items = pieces-items 9 14 entries_of lsp_entry entry_value IsTellable entries-reads_back (length entries) entries (omega arith) tellable.each

  entry-tlvs : AreTlvs (entry_tlvs entries)
  entry-tlvs = pieces-tlvs 9 14 entries_of lsp_entry entry_value IsTellable entries-reads_back (length entries) entries

  entry-size : length (entry_tlvs entries) ≤ 1350
  entry-size =
      let size = pieces-length 9 14 entries_of lsp_entry entry_value IsTellable entries-reads_back 16 entries-length (length entries) entries in
      let count = tellable.count in
      omega arith

-- ---- an SNP of a type

module _ (kind : PduKind) (pdu : List ℕ → PduView) (head : IsHead kind pdu) (short : header_length kind ≤ 33) (entries : List SnpEntry) (tellable : AreTellable entries) (key : Option (List ℕ)) where
  abbrev whole : List ℕ
  whole = signed_tlvs key pdu (entry_tlvs entries)

  writable : IsWritable (pdu whole)
  writable =
      let size = entry-size entries tellable in
      signed-writable kind pdu head (entry_tlvs entries) (entry-tlvs entries tellable) key (omega arith)

  is-short : leb (length (octets_of_pdu (pdu whole))) 1492 ≡ true
  is-short =
      let size = entry-size entries tellable in
      let octets = length-spelled (pdu whole) writable in
      let header : header_length (kind_of (pdu whole)) ≡ header_length kind = ap header_length (head.typed whole) in
      let tlvs : length (tlvs_of_pdu (pdu whole)) ≡ length whole = ap length (head.tlvs whole) in
      let longer = signed-length kind pdu head (entry_tlvs entries) (entry-tlvs entries tellable) key in
      le-leb (length (octets_of_pdu (pdu whole))) 1492 (omega arith)

  items : entries_in whole ≡ fine (map lsp_entry entries)
  items = signed-items kind pdu head (entry_tlvs entries) (entry-tlvs entries tellable) key 9 entries_of refl ∙ entry-items entries tellable

  are-read : is_none (fault_of (entries_in whole)) ≡ true
  are-read = ap (λ found. is_none (fault_of found)) items ∙ ap is_none (fine-fault (map lsp_entry entries))

  listed : map snp_entry (ok_prefix (entries_in whole)) ≡ entries
  listed =
      ap (λ found. map snp_entry (ok_prefix found)) items
      ∙ ap (map snp_entry) (fine-items (map lsp_entry entries))
      ∙ entries-read entries tellable.each

  is-authentic : (other : Option (List ℕ)) → other ≡ key → passes other (octets_of_pdu (pdu whole)) (header_length kind) ≡ true
  is-authentic other same =
      let size = entry-size entries tellable in
      ap (λ (k : Option (List ℕ)). passes k (octets_of_pdu (pdu whole)) (header_length kind)) same
      ∙ signed-passes kind pdu head (entry_tlvs entries) (entry-tlvs entries tellable) key (omega arith)

same-source : (system : ℕ) → system < 2 ^ 48 → u48_of (node_id (256 * system)).system.0 ≡ system
same-source system h =
    let n : 256 * system / 256 ≡ system = omega arith in
    u48-again (256 * system / 256) (omega arith) ∙ n

-- ---- PSNPs

abbrev psnp : Level → NodeId → List ℕ → PduView
psnp level source tlvs = Psnp level source tlvs

psnp-lives : (level : Level) (n : ℕ) (tlvs : List ℕ) → is_purge (octets_of_pdu (psnp level (node_id n) tlvs)) ≡ false
psnp-lives level.One n tlvs = refl
psnp-lives level.Two n tlvs = refl

psnp-head : (level : Level) (n : ℕ) → IsHead (kind.Psnp level) (psnp level (node_id n))
psnp-head level n = record {
  front = λ size. start_octets (kind.Psnp level) ++ field_octets (psnp level (node_id n) []) (17 + size);
  long = λ size. refl;
  spells = λ tlvs. refl;
  typed = λ tlvs. refl;
  tlvs = λ tlvs. refl;
  writable = λ tlvs fits are. record { fields = refl; fits = fits; tlvs = are };
  lives = psnp-lives level n;
}

pub psnp-reads : (by config : Config) (on c : Circuit) (boot place : ℕ) → boot < 2 ^ 32 → (level : Level) (entries : List SnpEntry) → IsSender config → AreTellable entries → CanRead by on config c (kind.Psnp level) → read by on (datagram config boot place c (sent.Psnp level entries)) ≡ said by.system config boot place c (sent.Psnp level entries)
unfolding pdu_octets signed
psnp-reads by config on c boot place low_boot level entries sender tellable takes =
    let its = kind.Psnp level in
    let key = at config.keys level in
    let pdu = psnp level (node_id (256 * config.system)) in
    let head = psnp-head level (256 * config.system) in
    let few : 17 ≤ 33 = omega arith in
    let tlvs = signed_tlvs key pdu (entry_tlvs entries) in
    let octets = octets_of_pdu (pdu tlvs) in
    let none = all-hold (tests_of by on (pdu tlvs) octets) (is-short its pdu head few entries tellable key, (takes.goes, (takes.runs, (is-authentic its pdu head few entries tellable key (at by.keys level) takes.key, (are-read its pdu head few entries tellable key, (refl, (refl, tt))))))) in
    let source = same-source config.system sender.system in
    let entries_are = listed its pdu head few entries tellable key in
    read-begins by on config.system boot octets (pdu tlvs) sender.system low_boot (octets_of_pdu-begins (pdu tlvs) (writable its pdu head few entries tellable key))
    ∙ ap (λ cause. refused_or cause (message by.system (envelope config boot) (pdu tlvs) octets)) none
    ∙ (λ i. SnpHeard level (envelope config boot) (source i) None (entries_are i))

-- ---- CSNPs

abbrev csnp : Level → NodeId → LspId → LspId → List ℕ → PduView
csnp level source start end tlvs = Csnp level source start end tlvs

csnp-lives : (level : Level) (n a b : ℕ) (tlvs : List ℕ) → is_purge (octets_of_pdu (csnp level (node_id n) (lsp_id a) (lsp_id b) tlvs)) ≡ false
csnp-lives level.One n a b tlvs = refl
csnp-lives level.Two n a b tlvs = refl

csnp-head : (level : Level) (n a b : ℕ) → IsHead (kind.Csnp level) (csnp level (node_id n) (lsp_id a) (lsp_id b))
csnp-head level n a b = record {
  front = λ size. start_octets (kind.Csnp level) ++ field_octets (csnp level (node_id n) (lsp_id a) (lsp_id b) []) (33 + size);
  long = λ size. refl;
  spells = λ tlvs. refl;
  typed = λ tlvs. refl;
  tlvs = λ tlvs. refl;
  writable = λ tlvs fits are. record { fields = (refl, refl, refl); fits = fits; tlvs = are };
  lives = csnp-lives level n a b;
}

pub csnp-reads : (by config : Config) (on c : Circuit) (boot place : ℕ) → boot < 2 ^ 32 → (level : Level) (start end : ℕ) (entries : List SnpEntry) → IsSender config → start < 2 ^ 64 → end < 2 ^ 64 → AreTellable entries → CanRead by on config c (kind.Csnp level) → read by on (datagram config boot place c (sent.Csnp level start end entries)) ≡ said by.system config boot place c (sent.Csnp level start end entries)
unfolding pdu_octets signed
csnp-reads by config on c boot place low_boot level start end entries sender low high tellable takes =
    let its = kind.Csnp level in
    let key = at config.keys level in
    let pdu = csnp level (node_id (256 * config.system)) (lsp_id start) (lsp_id end) in
    let head = csnp-head level (256 * config.system) start end in
    let few : 33 ≤ 33 = omega arith in
    let tlvs = signed_tlvs key pdu (entry_tlvs entries) in
    let octets = octets_of_pdu (pdu tlvs) in
    let none = all-hold (tests_of by on (pdu tlvs) octets) (is-short its pdu head few entries tellable key, (takes.goes, (takes.runs, (is-authentic its pdu head few entries tellable key (at by.keys level) takes.key, (are-read its pdu head few entries tellable key, (refl, (refl, tt))))))) in
    let source = same-source config.system sender.system in
    let first = lsp-reads_back start low in
    let last = lsp-reads_back end high in
    let entries_are = listed its pdu head few entries tellable key in
    read-begins by on config.system boot octets (pdu tlvs) sender.system low_boot (octets_of_pdu-begins (pdu tlvs) (writable its pdu head few entries tellable key))
    ∙ ap (λ cause. refused_or cause (message by.system (envelope config boot) (pdu tlvs) octets)) none
    ∙ (λ i. SnpHeard level (envelope config boot) (source i) (Some (first i, last i)) (entries_are i))
