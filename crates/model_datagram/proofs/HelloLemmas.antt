-- Hellos read back.
use Rattle.std.proofs.Common.{◌≡◌, ◌∙◌, ℕ, ◌+◌, ◌*◌, ◌^◌, ◌<◌, ◌≤◌, List, [], ◌∷◌, ◌++◌, length, map, cond, eqb, ◌||◌, Bool, true, false, is_none, Option, Some, None, Result, refl, sym, ap, arith, length-append, append-nil}
use Rattle.std.specs.List.{AllByRecursion}
use Rattle.std.specs.Result.{ok_prefix}
use Rattle.std.proofs.lemmas.Bool.{and_from}
use Rattle.isis_base.specs.declared.level.Level.{Level}
use Rattle.isis_base.specs.declared.level.Level.TheVariants as level
use Rattle.isis_base.specs.declared.level.LevelSet.{LevelSet}
use Rattle.isis_base.specs.declared.pdu_kind.PduKind.TheVariants as kind
use Rattle.isis_tlv.specs.declared.fault.ValueFault.{ValueFault}
use Rattle.isis_tlv.specs.declared.three_way.Adj.{Adj}
use Rattle.isis_tlv.specs.Walks.{fault_of}
use Rattle.isis_tlv.specs.Tlvs.{tlv_octets, AreTlvs}
use Rattle.isis_tlv.specs.Fits.{IsArea, IsSnpa, IsThreeWay}
use Rattle.isis_tlv.specs.Items.{area_at, snpa_at, areas_of, snpas_of, three_way_of}
use Rattle.isis_tlv.specs.Spelling.{area_octets, area_value, snpa_value, address_value, protocol_tlv, three_way_octets, three_way_tlv}
use Rattle.isis_tlv.specs.Takes.{area-takes_one, snpa-takes_one}
use Rattle.isis_tlv.proofs.RoundLemmas.{values-reads_back, area-reads_back, snpa-reads_back}
use Rattle.isis_tlv.proofs.ThreeWayLemmas.{three_way-reads_back}
use Rattle.isis_tlv.proofs.TlvLemmas.{tlvs-joined, tlvs-one}
use Rattle.isis_pdu.specs.Views.{PduView, PointHello, LanHello}
use Rattle.isis_pdu.specs.Spelling.{start_octets, field_octets, octets_of_pdu}
use Rattle.hmac_auth.specs.Pdus.{is_purge}
use Rattle.model_router.specs.Both.{Both, runs_of}
use Rattle.model_router.specs.Configs.{Config}
use Rattle.model_router.specs.Routers.{Circuit}
use Rattle.model_router.specs.Datagrams as sent
use Rattle.model_router.specs.Events.{PointHelloHeard, LanHelloHeard}
use Rattle.model_router.specs.Numbers.{system_id, snpa_id, node_id}
use Rattle.model_datagram.specs.Values.{items_in, areas_in, snpas_in, handshakes_in, lists, handshake, first_handshake}
use Rattle.model_datagram.specs.Tests.{tests_of, passes}
use Rattle.model_datagram.specs.Reading.{message, refused_or, read}
use Rattle.model_datagram.specs.Signing.{signed_tlvs, signed}
use Rattle.model_datagram.specs.Tlvs.{own_address, hello_tlvs, three_way_value, point_tlvs, snpa_tlvs, lan_tlvs}
use Rattle.model_datagram.specs.Datagrams.{levels_run, datagram, pdu_octets}
use Rattle.model_datagram.specs.Said.{envelope, names, said, CanRead}
use Rattle.model_datagram.specs.Senders.{IsSender, IsHandshake, IsLanHello}
use Rattle.model_datagram.proofs.NumberLemmas.{u48-again, node-reads_back}
use Rattle.model_datagram.proofs.ReadLemmas.{read-begins, octets_of_pdu-begins, all-hold}
use Rattle.model_datagram.proofs.ItemLemmas.{said_by, items-end, items-tlv, fine, fine-fault, fine-items, tlvs-none, pieces-items, pieces-others, pieces-tlvs, pieces-length}
use Rattle.model_datagram.proofs.AuthLemmas.{IsHead, signed-items, signed-passes, signed-writable}

-- ---- levels

both-reads_back : (one two : Bool) → (one || two) ≡ true → runs_of (levels_run (record { one = one; two = two })) ≡ record { one = one; two = two }
both-reads_back true true some = refl
both-reads_back true false some = refl
both-reads_back false true some = refl
both-reads_back false false some = cc

runs-reads_back : (runs : Both Bool) → (runs.one || runs.two) ≡ true → runs_of (levels_run runs) ≡ runs
runs-reads_back runs some = both-reads_back runs.one runs.two some

-- ---- TLVs of hellos

areas-reads_back : (areas : List (List ℕ)) → AllByRecursion IsArea areas → areas_of (area_value areas) ≡ fine areas
areas-reads_back areas all = values-reads_back area_at area-takes_one area_octets IsArea area-reads_back 0 areas all

module _ {X : Type 0} (code : ℕ) (reader : List ℕ → List (Result X ValueFault)) where
  address-items : eqb 132 code ≡ false → (address : Option ℕ) (others : List ℕ) → items_in code reader (own_address address ++ others) ≡ items_in code reader others
  address-items other None others = refl
  address-items other (Some address) others =
      items-tlv code reader 132 (address_value (address ∷ [])) others
      ∙ ap (λ (t : Bool). cond t (reader (address_value (address ∷ []))) [] ++ items_in code reader others) other

  hello-items : eqb 129 code ≡ false → eqb 132 code ≡ false → (areas : List (List ℕ)) (address : Option ℕ) (others : List ℕ) → items_in code reader (hello_tlvs areas address others) ≡ said_by code reader 1 (area_value areas) ++ items_in code reader others
  hello-items no_protocol no_address areas address others =
      items-tlv code reader 1 (area_value areas) (protocol_tlv ++ (own_address address ++ others))
      ∙ ap (λ items. said_by code reader 1 (area_value areas) ++ items)
      (items-tlv code reader 129 (204 ∷ []) (own_address address ++ others)
      ∙ ap (λ (t : Bool). cond t (reader (204 ∷ [])) [] ++ items_in code reader (own_address address ++ others)) no_protocol
      ∙ address-items no_address address others)

  last-items : (c : ℕ) (value : List ℕ) → items_in code reader (tlv_octets c value) ≡ said_by code reader c value
  last-items c value =
      ap (λ (octets : List ℕ). items_in code reader (c ∷ length value ∷ octets)) (sym (append-nil value))
      ∙ items-tlv code reader c value []
      ∙ ap (λ items. said_by code reader c value ++ items) (items-end code reader)
      ∙ append-nil (said_by code reader c value)

address-tlvs : (address : Option ℕ) → AreTlvs (own_address address)
address-tlvs None = tlvs-none
address-tlvs (Some address) = tlvs-one 132 (address_value (address ∷ []))

are-hello : (areas : List (List ℕ)) (address : Option ℕ) (others : List ℕ) → AreTlvs others → AreTlvs (hello_tlvs areas address others)
are-hello areas address others are =
    tlvs-joined (tlv_octets 1 (area_value areas)) (protocol_tlv ++ (own_address address ++ others)) (tlvs-one 1 (area_value areas))
    (tlvs-joined protocol_tlv (own_address address ++ others) (tlvs-one 129 (204 ∷ []))
    (tlvs-joined (own_address address) others (address-tlvs address) are))

address-length : (address : Option ℕ) → length (own_address address) ≤ 6
address-length None = omega arith
address-length (Some address) = omega arith

hello-length : (areas : List (List ℕ)) (address : Option ℕ) (others : List ℕ) → length (area_value areas) ≤ 255 → length (hello_tlvs areas address others) ≤ 266 + length others
hello-length areas address others fits =
    let own = address-length address in
    let last = length-append (own_address address) others in
    let all = length-append (area_value areas) (protocol_tlv ++ (own_address address ++ others)) in
    omega arith

-- ---- the three-way handshake

is-three-way : (state : Adj) (extended : ℕ) (named : Option (ℕ × ℕ)) → IsHandshake extended named → IsThreeWay (three_way_value state extended named)
is-three-way state extended None is = record { own_id = is.own; neighbour = tt; both = λ some. refl }
is-three-way state extended (Some name) is = record { own_id = is.own; neighbour = (refl, is.other.1); both = λ some. refl }

handshake-reads_back : (state : Adj) (extended : ℕ) (named : Option (ℕ × ℕ)) → IsHandshake extended named → handshake (three_way_value state extended named) ≡ record { state = state; extended = extended; names = named }
handshake-reads_back state extended None is = refl
handshake-reads_back state extended (Some name) is =
    let system = u48-again name.0 is.other.0 in
    (λ i. record { state = state; extended = extended; names = Some (system i, name.1) })

three-way-length : (state : Adj) (extended : ℕ) (named : Option (ℕ × ℕ)) → length (three_way_tlv (three_way_value state extended named)) ≤ 17
three-way-length state extended None = omega arith
three-way-length state extended (Some name) = omega arith

-- ---- point-to-point

abbrev point : LevelSet → ℕ → ℕ → List ℕ → PduView
point set system circuit tlvs = PointHello set (system_id system) 30 circuit tlvs

point-head : (set : LevelSet) (system circuit : ℕ) → IsHead kind.PointHello (point set system circuit)
point-head set system circuit = record {
  front = λ size. start_octets kind.PointHello ++ field_octets (point set system circuit []) (20 + size);
  long = λ size. refl;
  spells = λ tlvs. refl;
  typed = λ tlvs. refl;
  tlvs = λ tlvs. refl;
  writable = λ tlvs fits are. record { fields = (refl, omega arith); fits = fits; tlvs = are };
  lives = λ tlvs. refl;
}

pub point-reads : (by config : Config) (on c : Circuit) (boot place : ℕ) → boot < 2 ^ 32 → (state : Adj) (extended : ℕ) (named : Option (ℕ × ℕ)) → IsSender config → IsHandshake extended named → CanRead by on config c kind.PointHello → read by on (datagram config boot place c (sent.PointHello state extended named)) ≡ said by.system config boot place c (sent.PointHello state extended named)
unfolding pdu_octets signed
point-reads by config on c boot place low_boot state extended named sender shake takes =
    let value = three_way_value state extended named in
    let last = three_way_tlv value in
    let pdu = point (levels_run config.runs) config.system (place + 1) in
    let head = point-head (levels_run config.runs) config.system (place + 1) in
    let inside = point_tlvs config.areas c.address state extended named in
    let are = are-hello config.areas c.address last (tlvs-one 240 (three_way_octets value)) in
    let size = hello-length config.areas c.address last sender.fits in
    let three = three-way-length state extended named in
    let tlvs = signed_tlvs c.key pdu inside in
    let octets = octets_of_pdu (pdu tlvs) in
    let writable = signed-writable kind.PointHello pdu head inside are c.key (omega arith) in
    let areas : areas_in tlvs ≡ fine config.areas =
    signed-items kind.PointHello pdu head inside are c.key 1 areas_of refl
    ∙ hello-items 1 areas_of refl refl config.areas c.address last
    ∙ ap (λ items. areas_of (area_value config.areas) ++ items) (last-items 1 areas_of 240 (three_way_octets value))
    ∙ append-nil (areas_of (area_value config.areas))
    ∙ areas-reads_back config.areas sender.areas in
    let snpas : snpas_in tlvs ≡ [] =
    signed-items kind.PointHello pdu head inside are c.key 6 snpas_of refl
    ∙ hello-items 6 snpas_of refl refl config.areas c.address last
    ∙ last-items 6 snpas_of 240 (three_way_octets value) in
    let shakes : handshakes_in tlvs ≡ fine (value ∷ []) =
    signed-items kind.PointHello pdu head inside are c.key 240 (λ octets. three_way_of octets ∷ []) refl
    ∙ hello-items 240 (λ octets. three_way_of octets ∷ []) refl refl config.areas c.address last
    ∙ last-items 240 (λ octets. three_way_of octets ∷ []) 240 (three_way_octets value)
    ∙ ap (λ read. read ∷ []) (three_way-reads_back value (is-three-way state extended named shake)) in
    let auth = ap (λ (k : Option (List ℕ)). passes k octets 20) takes.key ∙ signed-passes kind.PointHello pdu head inside are c.key (omega arith) in
    let no_area = ap (λ items. is_none (fault_of items)) areas ∙ ap is_none (fine-fault config.areas) in
    let no_snpa = ap (λ items. is_none (fault_of items)) snpas in
    let no_shake = ap (λ items. is_none (fault_of items)) shakes in
    let values = and_from _ _ (and_from _ _ no_area no_snpa) no_shake in
    let none = all-hold (tests_of by on (pdu tlvs) octets) (refl, (takes.goes, (takes.runs, (auth, (values, (refl, (refl, tt))))))) in
    let source = u48-again config.system sender.system in
    let runs = runs-reads_back config.runs sender.some in
    let areas_are = ap ok_prefix areas ∙ fine-items config.areas in
    let shake_is = ap (λ items. first_handshake (ok_prefix items)) shakes ∙ ap Some (handshake-reads_back state extended named shake) in
    read-begins by on config.system boot octets (pdu tlvs) sender.system low_boot (octets_of_pdu-begins (pdu tlvs) writable)
    ∙ ap (λ cause. refused_or cause (message by.system (envelope config boot) (pdu tlvs) octets)) none
    ∙ (λ i. PointHelloHeard (record { source = source i; snpa = config.system; boot = boot; runs = runs i; holding = 30; priority = 0; lan = 0; areas = areas_are i; handshake = shake_is i; names_me = false }))

-- ---- LANs

are-snpas : (snpas : List ℕ) → AllByRecursion IsSnpa (map snpa_id snpas)
are-snpas [] = tt
are-snpas (snpa ∷ snpas) = (record { six = refl }, are-snpas snpas)

abbrev Small : ℕ → Type 0
Small snpa = snpa < 2 ^ 48

snpas-reads_back : (snpas : List ℕ) → AllByRecursion Small snpas → snpas_of (snpa_value (map snpa_id snpas)) ≡ fine (map snpa_id snpas)
snpas-reads_back snpas all = values-reads_back snpa_at snpa-takes_one (λ snpa. snpa.0) IsSnpa snpa-reads_back 0 (map snpa_id snpas) (are-snpas snpas)

snpas-length : (snpas : List ℕ) → length (snpa_value (map snpa_id snpas)) ≡ 6 * length snpas
snpas-length [] = omega arith
snpas-length (snpa ∷ snpas) =
    let rest = snpas-length snpas in
    omega arith

lists-names : (own : ℕ) (snpas : List ℕ) → AllByRecursion Small snpas → lists own (map snpa_id snpas) ≡ names own snpas
lists-names own [] all = refl
lists-names own (snpa ∷ snpas) all =
    let first = u48-again snpa all.0 in
    let rest = lists-names own snpas all.1 in
    (λ i. eqb (first i) own || rest i)

abbrev lan : Level → LevelSet → ℕ → ℕ → ℕ → List ℕ → PduView
lan level set system priority id tlvs = LanHello level set (system_id system) 30 priority (node_id id) tlvs

lan-lives : (level : Level) (set : LevelSet) (system priority id : ℕ) (tlvs : List ℕ) → is_purge (octets_of_pdu (lan level set system priority id tlvs)) ≡ false
lan-lives level.One set system priority id tlvs = refl
lan-lives level.Two set system priority id tlvs = refl

lan-head : (level : Level) (set : LevelSet) (system priority id : ℕ) → priority ≤ 127 → IsHead (kind.LanHello level) (lan level set system priority id)
lan-head level set system priority id low = record {
  front = λ size. start_octets (kind.LanHello level) ++ field_octets (lan level set system priority id []) (27 + size);
  long = λ size. refl;
  spells = λ tlvs. refl;
  typed = λ tlvs. refl;
  tlvs = λ tlvs. refl;
  writable = λ tlvs fits are. record { fields = (refl, omega arith, low, refl); fits = fits; tlvs = are };
  lives = lan-lives level set system priority id;
}

pub lan-reads : (by config : Config) (on c : Circuit) (boot place : ℕ) → boot < 2 ^ 32 → (level : Level) (id : ℕ) (snpas : List ℕ) → IsSender config → IsLanHello c.priority id snpas → CanRead by on config c (kind.LanHello level) → read by on (datagram config boot place c (sent.LanHello level id snpas)) ≡ said by.system config boot place c (sent.LanHello level id snpas)
unfolding pdu_octets signed
lan-reads by config on c boot place low_boot level id snpas sender fits takes =
    let its = kind.LanHello level in
    let heard = snpa_tlvs snpas in
    let set = levels_run config.runs in
    let pdu = lan level set config.system c.priority id in
    let head = lan-head level set config.system c.priority id fits.seven_bits in
    let inside = lan_tlvs config.areas c.address snpas in
    let are = are-hello config.areas c.address heard (pieces-tlvs 6 41 snpas_of snpa_id snpa_value Small snpas-reads_back (length snpas) snpas) in
    let size = hello-length config.areas c.address heard sender.fits in
    let six = pieces-length 6 41 snpas_of snpa_id snpa_value Small snpas-reads_back 6 snpas-length (length snpas) snpas in
    let count = fits.count in
    let tlvs = signed_tlvs c.key pdu inside in
    let octets = octets_of_pdu (pdu tlvs) in
    let writable = signed-writable its pdu head inside are c.key (omega arith) in
    let areas : areas_in tlvs ≡ fine config.areas =
    signed-items its pdu head inside are c.key 1 areas_of refl
    ∙ hello-items 1 areas_of refl refl config.areas c.address heard
    ∙ ap (λ items. areas_of (area_value config.areas) ++ items) (pieces-others 6 41 snpas_of snpa_id snpa_value Small snpas-reads_back 1 areas_of refl (length snpas) snpas)
    ∙ append-nil (areas_of (area_value config.areas))
    ∙ areas-reads_back config.areas sender.areas in
    let listed : snpas_in tlvs ≡ fine (map snpa_id snpas) =
    signed-items its pdu head inside are c.key 6 snpas_of refl
    ∙ hello-items 6 snpas_of refl refl config.areas c.address heard
    ∙ pieces-items 6 41 snpas_of snpa_id snpa_value Small snpas-reads_back (length snpas) snpas (omega arith) fits.each in
    let shakes : handshakes_in tlvs ≡ [] =
    signed-items its pdu head inside are c.key 240 (λ octets. three_way_of octets ∷ []) refl
    ∙ hello-items 240 (λ octets. three_way_of octets ∷ []) refl refl config.areas c.address heard
    ∙ pieces-others 6 41 snpas_of snpa_id snpa_value Small snpas-reads_back 240 (λ octets. three_way_of octets ∷ []) refl (length snpas) snpas in
    let auth = ap (λ (k : Option (List ℕ)). passes k octets 27) takes.key ∙ signed-passes its pdu head inside are c.key (omega arith) in
    let no_area = ap (λ items. is_none (fault_of items)) areas ∙ ap is_none (fine-fault config.areas) in
    let no_snpa = ap (λ items. is_none (fault_of items)) listed ∙ ap is_none (fine-fault (map snpa_id snpas)) in
    let no_shake = ap (λ items. is_none (fault_of items)) shakes in
    let values = and_from _ _ (and_from _ _ no_area no_snpa) no_shake in
    let none = all-hold (tests_of by on (pdu tlvs) octets) (refl, (takes.goes, (takes.runs, (auth, (values, (refl, (refl, tt))))))) in
    let source = u48-again config.system sender.system in
    let runs = runs-reads_back config.runs sender.some in
    let id_is = node-reads_back id fits.seven_octets in
    let areas_are = ap ok_prefix areas ∙ fine-items config.areas in
    let named = ap (λ items. lists by.system (ok_prefix items)) listed ∙ ap (lists by.system) (fine-items (map snpa_id snpas)) ∙ lists-names by.system snpas fits.each in
    read-begins by on config.system boot octets (pdu tlvs) sender.system low_boot (octets_of_pdu-begins (pdu tlvs) writable)
    ∙ ap (λ cause. refused_or cause (message by.system (envelope config boot) (pdu tlvs) octets)) none
    ∙ (λ i. LanHelloHeard level (record { source = source i; snpa = config.system; boot = boot; runs = runs i; holding = 30; priority = c.priority; lan = id_is i; areas = areas_are i; handshake = None; names_me = named i }))
