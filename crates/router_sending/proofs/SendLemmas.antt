-- What is sent: the PDUs of a system but for their TLVs, and their TLVs.
use Rattle.std.proofs.Common.{◌≡◌, ◌∙◌, ℕ, ◌+◌, ◌*◌, ◌/◌, ◌%◌, zero, suc, ◌≤◌, List, [], ◌∷◌, ◌++◌, length, take, drop, map, Bool, false, is_some, Option, Some, None, refl, sym, ap, arith, length-append, append_assoc, append-nil, mul-add, add-mul}
use Rattle.std.specs.Option.{option_map, option_copied}
use Rattle.isis_base.specs.declared.level.Level.{Level}
use Rattle.isis_base.specs.declared.level.Level.TheVariants as level
use Rattle.isis_base.specs.declared.level.LevelSet.{LevelSet}
use Rattle.isis_base.specs.declared.level.LevelSet.TheVariants as levels
use Rattle.isis_base.specs.declared.pdu_kind.PduKind.TheVariants as kind
use Rattle.isis_base.specs.Fields.{u32_octets}
use Rattle.isis_tlv.specs.Tlvs.{tlv_octets, AreTlvs}
use Rattle.isis_tlv.specs.Spelling.{area_value, area_tlv, snpa_value, snpa_tlv, entry_value, entry_tlv, address_value, protocol_tlv, three_way_octets, three_way_tlv}
use Rattle.isis_tlv.specs.declared.three_way.Adj.{Adj}
use Rattle.isis_tlv.proofs.TlvLemmas.{tlvs-joined, tlvs-one}
use Rattle.isis_pdu.specs.Views.{PduView, PointHello, LanHello, Csnp, Psnp}
use Rattle.isis_pdu.specs.Spelling.{start_octets, field_octets, octets_of_pdu}
use Rattle.hmac_auth.specs.Pdus.{is_purge}
use Rattle.model_router.specs.SnpTable.{SnpEntry}
use Rattle.isis_base.specs.declared.identifiers.SystemId.{SystemId}
use Rattle.std.proofs.lemmas.List.{take-append-drop, length-map}
use Rattle.model_router.specs.Both.{at, runs_of}
use Rattle.model_router.specs.Cells.{Cell}
use Rattle.model_router.specs.Configs.{Config}
use Rattle.model_router.specs.Routers.{Circuit}
use Rattle.model_router.specs.Datagrams as sent
use Rattle.model_datagram.specs.Frames.{magic, framed}
use Rattle.model_datagram.specs.Signing.{signed}
use Rattle.model_datagram.specs.Lsps.{lsp_sent}
use Rattle.router_sending.specs.declared.sender.Sender.{Sender}
use Rattle.isis_base.specs.declared.identifiers.NodeId.{NodeId}
use Rattle.isis_base.specs.declared.identifiers.LspId.{LspId}
use Rattle.isis_base.specs.declared.entry.LspEntry.{LspEntry}
use Rattle.adjacency.specs.declared.neighbour.Neighbour.{Neighbour}
use Rattle.flag_sync.specs.Heard.{entries_of}
use Rattle.router_sending.proofs.PieceLemmas.{pieced-map}
use Rattle.router_sending.specs.Sends.{Sends, snpas_of}
use Rattle.router_sending.specs.Writing.{frame_of, pieced, heard_tlv}
use Rattle.model_router.specs.Numbers.{system_id, node_id, lsp_id, snpa_id, system_number, snpa_number}
use Rattle.model_datagram.specs.Tlvs.{in_pieces, own_address, hello_tlvs, three_way_value, point_tlvs, snpa_tlvs, lan_tlvs, lsp_entry, entry_tlvs}
use Rattle.model_datagram.specs.Datagrams.{levels_run, pdu_octets, datagram}
use Rattle.model_datagram.proofs.ItemLemmas.{tlvs-none}
use Rattle.std.specs.List.{flat_map}
use Rattle.std.specs.Borrow.{Bor}
use Rattle.router_sending.specs.Drafts.{blank_auth}
use Rattle.router_sending.proofs.EndLemmas.{IsBegun, before_end}

-- ---- PDUs but for their TLVs

abbrev pub point : LevelSet → ℕ → ℕ → List ℕ → PduView
point set system circuit tlvs = PointHello set (system_id system) 30 circuit tlvs

pub point-begun : (set : LevelSet) (system circuit : ℕ) → IsBegun kind.PointHello (point set system circuit)
point-begun set system circuit = record {
  head = record {
    front = λ size. start_octets kind.PointHello ++ field_octets (point set system circuit []) (20 + size);
    long = λ size. refl;
    spells = λ tlvs. refl;
    typed = λ tlvs. refl;
    tlvs = λ tlvs. refl;
    writable = λ tlvs fits are. record { fields = (refl, omega arith); fits = fits; tlvs = are };
    lives = λ tlvs. refl;
  };
  sizes = λ rest. refl;
}

abbrev pub lan : Level → LevelSet → ℕ → ℕ → ℕ → List ℕ → PduView
lan level set system priority id tlvs = LanHello level set (system_id system) 30 priority (node_id id) tlvs

lan-lives : (level : Level) (set : LevelSet) (system priority id : ℕ) (tlvs : List ℕ) → is_purge (octets_of_pdu (lan level set system priority id tlvs)) ≡ false
lan-lives level.One set system priority id tlvs = refl
lan-lives level.Two set system priority id tlvs = refl

pub lan-begun : (level : Level) (set : LevelSet) (system priority id : ℕ) → priority ≤ 127 → IsBegun (kind.LanHello level) (lan level set system priority id)
lan-begun level set system priority id low = record {
  head = record {
    front = λ size. start_octets (kind.LanHello level) ++ field_octets (lan level set system priority id []) (27 + size);
    long = λ size. refl;
    spells = λ tlvs. refl;
    typed = λ tlvs. refl;
    tlvs = λ tlvs. refl;
    writable = λ tlvs fits are. record { fields = (refl, omega arith, low, refl); fits = fits; tlvs = are };
    lives = lan-lives level set system priority id;
  };
  sizes = λ rest. refl;
}

abbrev pub full : Level → ℕ → ℕ → ℕ → List ℕ → PduView
full level node start end tlvs = Csnp level (node_id node) (lsp_id start) (lsp_id end) tlvs

full-lives : (level : Level) (node start end : ℕ) (tlvs : List ℕ) → is_purge (octets_of_pdu (full level node start end tlvs)) ≡ false
full-lives level.One node start end tlvs = refl
full-lives level.Two node start end tlvs = refl

pub full-begun : (level : Level) (node start end : ℕ) → IsBegun (kind.Csnp level) (full level node start end)
full-begun level node start end = record {
  head = record {
    front = λ size. start_octets (kind.Csnp level) ++ field_octets (full level node start end []) (33 + size);
    long = λ size. refl;
    spells = λ tlvs. refl;
    typed = λ tlvs. refl;
    tlvs = λ tlvs. refl;
    writable = λ tlvs fits are. record { fields = (refl, refl, refl); fits = fits; tlvs = are };
    lives = full-lives level node start end;
  };
  sizes = λ rest. refl;
}

abbrev pub partial : Level → ℕ → List ℕ → PduView
partial level node tlvs = Psnp level (node_id node) tlvs

partial-lives : (level : Level) (node : ℕ) (tlvs : List ℕ) → is_purge (octets_of_pdu (partial level node tlvs)) ≡ false
partial-lives level.One node tlvs = refl
partial-lives level.Two node tlvs = refl

pub partial-begun : (level : Level) (node : ℕ) → IsBegun (kind.Psnp level) (partial level node)
partial-begun level node = record {
  head = record {
    front = λ size. start_octets (kind.Psnp level) ++ field_octets (partial level node []) (17 + size);
    long = λ size. refl;
    spells = λ tlvs. refl;
    typed = λ tlvs. refl;
    tlvs = λ tlvs. refl;
    writable = λ tlvs fits are. record { fields = refl; fits = fits; tlvs = are };
    lives = partial-lives level node;
  };
  sizes = λ rest. refl;
}

-- ---- their TLVs

-- what a hello begins with, and more behind it
pub hello-more : (areas : List (List ℕ)) (address : Option ℕ) (others : List ℕ) → hello_tlvs areas address [] ++ others ≡ hello_tlvs areas address others
hello-more areas address others =
    let own = own_address address in
    append_assoc (area_tlv areas) (protocol_tlv ++ (own ++ [])) others
    ∙ ap (λ (xs : List ℕ). area_tlv areas ++ (protocol_tlv ++ xs)) (ap (λ (xs : List ℕ). xs ++ others) (append-nil own))

address-tlvs : (address : Option ℕ) → AreTlvs (own_address address)
address-tlvs None = tlvs-none
address-tlvs (Some address) = tlvs-one 132 (address_value (address ∷ []))

are-hello : (areas : List (List ℕ)) (address : Option ℕ) (others : List ℕ) → AreTlvs others → AreTlvs (hello_tlvs areas address others)
are-hello areas address others are =
    tlvs-joined (area_tlv areas) (protocol_tlv ++ (own_address address ++ others)) (tlvs-one 1 (area_value areas))
    (tlvs-joined protocol_tlv (own_address address ++ others) (tlvs-one 129 (204 ∷ []))
    (tlvs-joined (own_address address) others (address-tlvs address) are))

address-length : (address : Option ℕ) → length (own_address address) ≤ 6
address-length None = omega arith
address-length (Some address) = omega arith

hello-length : (areas : List (List ℕ)) (address : Option ℕ) (others : List ℕ) → length (area_value areas) ≤ 255 → length (hello_tlvs areas address others) ≤ 266 + length others
hello-length areas address others fits =
    let own = address-length address in
    let last = length-append (own_address address) others in
    let all = length-append (area_value areas) (protocol_tlv ++ (own_address address ++ others)) in
    omega arith

three-way-length : (state : Adj) (extended : ℕ) (named : Option (ℕ × ℕ)) → length (three_way_tlv (three_way_value state extended named)) ≤ 17
three-way-length state extended None = omega arith
three-way-length state extended (Some name) = omega arith

-- TLVs that a header of at most 33 octets has the room for
pub record AreFit (tlvs : List ℕ) : Type 0 where
  pub are : AreTlvs tlvs
  pub fits : 33 + 19 + length tlvs ≤ 65535

pub point-fit : (areas : List (List ℕ)) (address : Option ℕ) (state : Adj) (extended : ℕ) (named : Option (ℕ × ℕ)) → length (area_value areas) ≤ 255 → AreFit (point_tlvs areas address state extended named)
point-fit areas address state extended named fits =
    let last = three_way_tlv (three_way_value state extended named) in
    let short = three-way-length state extended named in
    let all = hello-length areas address last fits in
    record {
      are = are-hello areas address last (tlvs-one 240 (three_way_octets (three_way_value state extended named)));
      fits = omega (arith, short, all);
    }

-- pieces of items of so many octets
module _ {A X : Type 0} (code k each : ℕ) (item : A → X) (value : List X → List ℕ) (sized : (list : List A) → length (value (map item list)) ≡ each * length list) where
  abbrev tlv_of : List A → List ℕ
  tlv_of piece = tlv_octets code (value (map item piece))

  abbrev pieces_of : ℕ → List A → List ℕ
  pieces_of count list = flat_map tlv_of (in_pieces count (suc k) list)

  are-pieces : (count : ℕ) (list : List A) → AreTlvs (pieces_of count list)
  are-pieces zero list = tlvs-none
  are-pieces (suc count) [] = tlvs-none
  are-pieces (suc count) (x ∷ list) =
      let piece = take (suc k) (x ∷ list) in
      let rest = drop (suc k) (x ∷ list) in
      tlvs-joined (tlv_of piece) (pieces_of count rest) (tlvs-one code (value (map item piece))) (are-pieces count rest)

  pieces-length : (count : ℕ) (list : List A) → length (pieces_of count list) ≤ (each + 2) * length list
  pieces-length zero list = omega arith
  pieces-length (suc count) [] = omega arith
  pieces-length (suc count) (x ∷ list) =
      let piece = take (suc k) (x ∷ list) in
      let rest = drop (suc k) (x ∷ list) in
      let one = sized piece in
      let later = pieces-length count rest in
      let all = length-append (value (map item piece)) (pieces_of count rest) in
      let whole : length (piece ++ rest) ≡ suc (length list) = ap length (take-append-drop (suc k) (x ∷ list)) in
      let both = length-append piece rest in
      let some : length piece ≡ suc (length (take k list)) = refl in
      let e : (each + 2) * suc (length list) ≡ (each + 2) * length piece + (each + 2) * length rest = ap (λ (n : ℕ). (each + 2) * n) (sym whole ∙ both) ∙ mul-add (each + 2) (length piece) (length rest) in
      let f : (each + 2) * length piece ≡ each * length piece + 2 * length piece = add-mul each 2 (length piece) in
      omega arith

snpas-length : (snpas : List ℕ) → length (snpa_value (map snpa_id snpas)) ≡ 6 * length snpas
snpas-length [] = omega arith
snpas-length (snpa ∷ snpas) = let rest = snpas-length snpas in omega arith

entries-length : (list : List SnpEntry) → length (entry_value (map lsp_entry list)) ≡ 16 * length list
entries-length [] = omega arith
entries-length (h ∷ list) = let rest = entries-length list in omega arith

pub lan-fit : (areas : List (List ℕ)) (address : Option ℕ) (snpas : List ℕ) → length (area_value areas) ≤ 255 → length snpas ≤ 200 → AreFit (lan_tlvs areas address snpas)
lan-fit areas address snpas fits few =
    let last = snpa_tlvs snpas in
    let short = pieces-length 6 41 6 snpa_id snpa_value snpas-length (length snpas) snpas in
    let all = hello-length areas address last fits in
    record {
      are = are-hello areas address last (are-pieces 6 41 6 snpa_id snpa_value snpas-length (length snpas) snpas);
      fits = omega (arith, short, all);
    }

pub entries-fit : (entries : List SnpEntry) → length entries ≤ 75 → AreFit (entry_tlvs entries)
entries-fit entries few =
    let short = pieces-length 9 14 16 lsp_entry entry_value entries-length (length entries) entries in
    record {
      are = are-pieces 9 14 16 lsp_entry entry_value entries-length (length entries) entries;
      fits = omega (arith, short);
    }

-- ---- a datagram before its end

-- octets behind what is known
pub behind : {a b c : List ℕ} (t : List ℕ) → a ≡ b ++ t → b ≡ c → a ≡ c ++ t
behind t more is = more ∙ ap (λ (xs : List ℕ). xs ++ t) is

-- TLVs behind what was begun
pub begun-more : (system : SystemId) (boot : ℕ) (header auth tlvs : List ℕ) → frame_of system boot (header ++ auth) ++ tlvs ≡ frame_of system boot (header ++ (auth ++ tlvs))
begun-more system boot header auth tlvs =
    ap (λ (xs : List ℕ). magic ++ xs) (append_assoc system.0 (u32_octets boot ++ (header ++ auth)) tlvs
    ∙ ap (λ (xs : List ℕ). system.0 ++ (u32_octets boot ++ xs)) (append_assoc header auth tlvs))

pub few-snpas : (heard : List Neighbour) → length heard ≤ 200 → length (snpas_of heard) ≤ 200
few-snpas heard few = let size = length-map heard (λ (n : Neighbour). snpa_number n.snpa) in omega (arith, size, few)

entries-size : (entries : List LspEntry) → length (entries_of entries) ≡ length entries
entries-size [] = refl
entries-size (e ∷ entries) = ap suc (entries-size entries)

pub few-entries : (entries : List LspEntry) → length entries ≤ 75 → length (entries_of entries) ≤ 75
few-entries entries few = let size = entries-size entries in omega (arith, size, few)

-- whether there is a key
pub copied-some : {X : Type 0} (key : Option (Bor X)) → is_some key ≡ is_some (option_copied key)
copied-some None = refl
copied-some (Some key) = refl

own-node : (n : ℕ) → node_id (256 * n) ≡ record { system = system_id n; pseudonode = 0 }
own-node n =
    let whole : 256 * n / 256 ≡ n = omega arith in
    let none : 256 * n % 256 ≡ 0 = omega arith in
    (λ i. record { system = system_id (whole i); pseudonode = none i })

module _ (system : SystemId) (n boot : ℕ) (same : system_id n ≡ system) (keyed : Bool) where
  abbrev pub begun : PduView → List ℕ
  begun header = frame_of system boot (octets_of_pdu header ++ blank_auth keyed)

  pub point-written : (set : LevelSet) (circuit : ℕ) (areas : List (List ℕ)) (address : Option ℕ) (state : Adj) (extended : ℕ) (neighbour : Option (SystemId × ℕ)) (named : Option (ℕ × ℕ))
      → option_map (λ (name : ℕ × ℕ). (system_id name.0, name.1)) named ≡ neighbour
      → begun (PointHello set system 30 circuit []) ++ hello_tlvs areas address [] ++ three_way_tlv (record { state = state; own_id = Some extended; neighbour = neighbour })
      ≡ before_end n boot (point set n circuit) keyed (point_tlvs areas address state extended named)
  point-written set circuit areas address state extended neighbour named names =
      let front = begun (PointHello set system 30 circuit []) in
      let last = three_way_tlv (record { state = state; own_id = Some extended; neighbour = neighbour }) in
      append_assoc front (hello_tlvs areas address []) last
      ∙ ap (λ (xs : List ℕ). front ++ xs) (hello-more areas address last)
      ∙ begun-more system boot (octets_of_pdu (PointHello set system 30 circuit [])) (blank_auth keyed) (hello_tlvs areas address last)
      ∙ (λ i. frame_of (sym same i) boot (octets_of_pdu (PointHello set (sym same i) 30 circuit []) ++ (blank_auth keyed ++ hello_tlvs areas address (three_way_tlv (record { state = state; own_id = Some extended; neighbour = sym names i })))))

  pub lan-written : (level : Level) (set : LevelSet) (priority : ℕ) (node : NodeId) (id : ℕ) (areas : List (List ℕ)) (address : Option ℕ) (heard : List Neighbour)
      → node_id id ≡ node → map snpa_id (snpas_of heard) ≡ map (λ (h : Neighbour). h.snpa) heard
      → begun (LanHello level set system 30 priority node []) ++ hello_tlvs areas address [] ++ pieced 42 heard_tlv heard
      ≡ before_end n boot (lan level set n priority id) keyed (lan_tlvs areas address (snpas_of heard))
  lan-written level set priority node id areas address heard node_is snpas_are =
      let front = begun (LanHello level set system 30 priority node []) in
      let last = pieced 42 heard_tlv heard in
      let list = snpas_of heard in
      let last_is : last ≡ snpa_tlvs list =
      pieced-map (λ (h : Neighbour). h.snpa) snpa_tlv 41 heard
      ∙ ap (pieced 42 snpa_tlv) (sym snpas_are)
      ∙ sym (pieced-map snpa_id snpa_tlv 41 list) in
      append_assoc front (hello_tlvs areas address []) last
      ∙ ap (λ (xs : List ℕ). front ++ xs) (hello-more areas address last)
      ∙ begun-more system boot (octets_of_pdu (LanHello level set system 30 priority node [])) (blank_auth keyed) (hello_tlvs areas address last)
      ∙ (λ i. frame_of (sym same i) boot (octets_of_pdu (LanHello level set (sym same i) 30 priority (sym node_is i) []) ++ (blank_auth keyed ++ hello_tlvs areas address (last_is i))))

  abbrev own : NodeId
  own = record { system = system; pseudonode = 0 }

  own-is : own ≡ node_id (256 * n)
  own-is = (λ i. record { system = sym same i; pseudonode = 0 }) ∙ sym (own-node n)

  entries-are : (entries : List LspEntry) → map lsp_entry (entries_of entries) ≡ entries → pieced 15 entry_tlv entries ≡ entry_tlvs (entries_of entries)
  entries-are entries same_entries = ap (pieced 15 entry_tlv) (sym same_entries) ∙ sym (pieced-map lsp_entry entry_tlv 14 (entries_of entries))

  pub full-written : (level : Level) (start end : LspId) (first last : ℕ) (entries : List LspEntry)
      → lsp_id first ≡ start → lsp_id last ≡ end → map lsp_entry (entries_of entries) ≡ entries
      → begun (Csnp level own start end []) ++ pieced 15 entry_tlv entries
      ≡ before_end n boot (full level (256 * n) first last) keyed (entry_tlvs (entries_of entries))
  full-written level start end first last entries start_is end_is same_entries =
      begun-more system boot (octets_of_pdu (Csnp level own start end [])) (blank_auth keyed) (pieced 15 entry_tlv entries)
      ∙ (λ i. frame_of (sym same i) boot (octets_of_pdu (Csnp level (own-is i) (sym start_is i) (sym end_is i) []) ++ (blank_auth keyed ++ entries-are entries same_entries i)))

  pub partial-written : (level : Level) (entries : List LspEntry) → map lsp_entry (entries_of entries) ≡ entries
      → begun (Psnp level own []) ++ pieced 15 entry_tlv entries
      ≡ before_end n boot (partial level (256 * n)) keyed (entry_tlvs (entries_of entries))
  partial-written level entries same_entries =
      begun-more system boot (octets_of_pdu (Psnp level own [])) (blank_auth keyed) (pieced 15 entry_tlv entries)
      ∙ (λ i. frame_of (sym same i) boot (octets_of_pdu (Psnp level (own-is i) []) ++ (blank_auth keyed ++ entries-are entries same_entries i)))

-- ---- for the model's router

levels-again : (set : LevelSet) → levels_run (runs_of set) ≡ set
levels-again levels.One = refl
levels-again levels.Two = refl
levels-again levels.Both = refl

module _ (sender : Sender) (config : Config) (boot place : ℕ) (c : Circuit) (sends : Sends sender config boot place c) where
  abbrev its_number : ℕ
  its_number = system_number sender.system

  abbrev level_key : Level → Option (List ℕ)
  level_key level = at (record { one = option_copied sender.area_key; two = option_copied sender.domain_key }) level

  keys-are : (level : Level) → level_key level ≡ at config.keys level
  keys-are level.One = sym sends.area_key
  keys-are level.Two = sym sends.domain_key

  framed-is : (pdu : List ℕ) → frame_of (system_id its_number) sender.boot pdu ≡ framed config.system boot pdu
  unfolding framed
  framed-is pdu = (λ i. framed (sym sends.system i) (sym sends.boot i) pdu)

  pub lsp-datagram : (level : Level) (id : ℕ) (cell : Cell) → frame_of (system_id its_number) sender.boot (lsp_sent (level_key level) cell) ≡ datagram config boot place c (sent.Lsp level id cell)
  unfolding pdu_octets
  lsp-datagram level id cell =
      framed-is (lsp_sent (level_key level) cell)
      ∙ ap (λ (k : Option (List ℕ)). framed config.system boot (lsp_sent k cell)) (keys-are level)

  pub point-datagram : (state : Adj) (extended : ℕ) (named : Option (ℕ × ℕ))
      → frame_of (system_id its_number) sender.boot (signed (option_copied sender.key) (point sender.levels its_number sender.circuit) (point_tlvs sender.areas.now sender.address state extended named))
      ≡ datagram config boot place c (sent.PointHello state extended named)
  unfolding pdu_octets
  point-datagram state extended named =
      let system = sym sends.system in
      let key = sym sends.key in
      let set = sym (ap levels_run sends.runs ∙ levels-again sender.levels) in
      let circuit = sym sends.circuit in
      let areas = sym sends.areas in
      let address = sym sends.address in
      framed-is _
      ∙ ap (framed config.system boot) (λ i. signed (key i) (point (set i) (system i) (circuit i)) (point_tlvs (areas i) (address i) state extended named))

  pub lan-datagram : (level : Level) (id : ℕ) (snpas : List ℕ)
      → frame_of (system_id its_number) sender.boot (signed (option_copied sender.key) (lan level sender.levels its_number sender.priority id) (lan_tlvs sender.areas.now sender.address snpas))
      ≡ datagram config boot place c (sent.LanHello level id snpas)
  unfolding pdu_octets
  lan-datagram level id snpas =
      let system = sym sends.system in
      let key = sym sends.key in
      let set = sym (ap levels_run sends.runs ∙ levels-again sender.levels) in
      let priority = sym sends.priority in
      let areas = sym sends.areas in
      let address = sym sends.address in
      framed-is _
      ∙ ap (framed config.system boot) (λ i. signed (key i) (lan level (set i) (system i) (priority i) id) (lan_tlvs (areas i) (address i) snpas))

  pub full-datagram : (level : Level) (start end : ℕ) (entries : List SnpEntry)
      → frame_of (system_id its_number) sender.boot (signed (level_key level) (full level (256 * its_number) start end) (entry_tlvs entries))
      ≡ datagram config boot place c (sent.Csnp level start end entries)
  unfolding pdu_octets
  full-datagram level start end entries =
      let system = sym sends.system in
      let key = keys-are level in
      framed-is _
      ∙ ap (framed config.system boot) (λ i. signed (key i) (full level (256 * system i) start end) (entry_tlvs entries))

  pub partial-datagram : (level : Level) (entries : List SnpEntry)
      → frame_of (system_id its_number) sender.boot (signed (level_key level) (partial level (256 * its_number)) (entry_tlvs entries))
      ≡ datagram config boot place c (sent.Psnp level entries)
  unfolding pdu_octets
  partial-datagram level entries =
      let system = sym sends.system in
      let key = keys-are level in
      framed-is _
      ∙ ap (framed config.system boot) (λ i. signed (key i) (partial level (256 * system i)) (entry_tlvs entries))
