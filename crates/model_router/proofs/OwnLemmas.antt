-- What is wanted may be issued: it has an LSP ID of one's own, and TLVs that fit the room.
use Rattle.std.proofs.Common.{◌≡◌, ℕ, ◌+◌, ◌*◌, ◌/◌, ◌%◌, ◌<◌, ◌≤◌, ◌==◌, List, [], ◌∷◌, ◌++◌, length, take, drop, Option, Some, None, is_some, refl, sym, subst, arith, length-append, length-drop}
use Rattle.std.proofs.lemmas.List.{length-take}
use Rattle.std.specs.List.{AllByRecursion}
use Rattle.isis_base.specs.declared.level.Level.{Level}
use Rattle.isis_base.specs.Fields.{u32_octets}
use Rattle.isis_tlv.specs.Items.{octets_for}
use Rattle.isis_tlv.specs.Tlvs.{tlv_octets, AreTlvs}
use Rattle.isis_tlv.specs.Walks.{items_of}
use Rattle.isis_tlv.specs.Spelling.{area_tlv, area_value, protocol_tlv, address_value}
use Rattle.isis_tlv.proofs.TlvLemmas.{tlvs-joined, tlvs-one}
use Rattle.model_router.specs.Maps.{find}
use Rattle.model_router.specs.Both.{at}
use Rattle.model_router.specs.Configs.{Config}
use Rattle.model_router.specs.Routers.{Circuit, Contents, Router}
use Rattle.model_router.specs.Givens.{Given}
use Rattle.model_router.specs.Elections.{designated, is_own}
use Rattle.model_router.specs.Splits.{Item, split}
use Rattle.model_router.specs.SplitLaws.{IsSmall, Says, Silent, Tlv, SayAll, Sole, More, value_of}
use Rattle.model_router.specs.LspNeighbours.{all_nodes, node_items}
use Rattle.model_router.specs.LspPrefixes.{Reach, prefixes_of, reach_items}
use Rattle.model_router.specs.Wanted.{with_address, addresses_of, some_addresses, first_tlvs, room_for, numbered, fragments_of, system_lsp, pseudonode_lsp, pseudonode_lsps, wanted, bare}
use Rattle.model_router.specs.OwnLsps.{contents_or}
use Rattle.model_router.specs.Takes.{answer_of}
use Rattle.model_router.specs.Receiving.{scene_of}
use Rattle.model_router.specs.Good.{IsGoodConfig, IsTelling, IsIssuable}
use Rattle.model_router.specs.Hearings.{IsOwnLsp}
use Rattle.model_router.proofs.BookLemmas.{choose}
use Rattle.model_router.proofs.ListLemmas.{all-map, all-append}
use Rattle.model_router.proofs.SplitLemmas.{split-fits}
use Rattle.model_router.proofs.SaysLemmas.{split-says}
use Rattle.model_router.proofs.WantedLemmas.{wanted-own}

-- ---- entries

rooms : (key : Option (List ℕ)) → 1446 ≤ room_for key
rooms key = choose (λ (n : ℕ). 1446 ≤ n) (is_some key) 1446 1465 (λ _. omega arith) (λ _. omega arith)

nodes-small : (room : ℕ) (nodes : List (ℕ × ℕ)) → 1446 ≤ room → AllByRecursion (IsSmall room) (node_items nodes)
nodes-small room [] h = tt
nodes-small room (node ∷ nodes) h = (record { code = omega arith; value = omega arith; fits = omega (arith, h) }, nodes-small room nodes h)

reach-small : (room : ℕ) (prefixes : List (ℕ × Reach)) → 1446 ≤ room → AllByRecursion (IsSmall room) (reach_items prefixes)
reach-small room [] h = tt
reach-small room (p ∷ prefixes) h =
    let n = length-take (octets_for (p.0 % 64)) (u32_octets (p.0 / 64)) in
    (record { code = omega arith; value = omega (arith, n); fits = omega (arith, h, n) }, reach-small room prefixes h)

-- ---- TLVs

tlvs-none : AreTlvs []
unfolding items_of
tlvs-none = refl

says-tlvs : (octets : List ℕ) (items : List Item) → Says octets items → AreTlvs octets
says-tlvs octets items Silent = tlvs-none
says-tlvs octets items (Tlv first before says code entries coded short) = tlvs-joined first (tlv_octets code (value_of entries)) (says-tlvs first before says) (tlvs-one code (value_of entries))

all-tlvs : (first : List ℕ) (fragments : List (List ℕ)) (items : List Item) → AreTlvs first → SayAll first fragments items → AllByRecursion AreTlvs fragments
all-tlvs first fragments all are (Sole octets items says) = (tlvs-joined first octets are (says-tlvs octets items says), tt)
all-tlvs first fragments all are (More before items says octets more last) = all-append AreTlvs before (octets ∷ []) (all-tlvs first before items are says) (says-tlvs octets more last, tt)

split-issuable : (key : Option (List ℕ)) (first : List ℕ) (items : List Item) → AreTlvs first → length first ≤ room_for key → AllByRecursion (IsSmall (room_for key)) items → AllByRecursion (λ (f : List ℕ). AreTlvs f × (length f ≤ room_for key)) (split first items (room_for key)).fragments
split-issuable key first items are short small =
    let room = room_for key in
    let said = split-says first items room small in
    both (split first items room).fragments (all-tlvs first _ said.taken are said.says)
    (split-fits first items room short (all-map (IsSmall room) (λ (i : Item). (0 < i.code) × (2 + length i.octets ≤ room)) items (λ i s. (s.code, s.fits)) small))
  where
    both : (fs : List (List ℕ)) → AllByRecursion AreTlvs fs → AllByRecursion (λ (f : List ℕ). length f ≤ room_for key) fs → AllByRecursion (λ (f : List ℕ). AreTlvs f × (length f ≤ room_for key)) fs
    both [] a b = tt
    both (f ∷ fs) a b = ((a.0, b.0), both fs a.1 b.1)

-- ---- what fragment 0 begins with

address-length : (addresses : List ℕ) → length (address_value addresses) ≡ 4 * length addresses
address-length [] = refl
address-length (a ∷ addresses) = let k = address-length addresses in omega (arith, k, length-append (u32_octets a) (address_value addresses))

some-tlvs : (addresses : List ℕ) → AreTlvs (some_addresses addresses)
some-tlvs [] = tlvs-none
some-tlvs (a ∷ addresses) = tlvs-one 132 (address_value (a ∷ addresses))

some-length : (addresses : List ℕ) → length addresses ≤ 63 → length (some_addresses addresses) ≤ 254
some-length [] h = omega arith
some-length (a ∷ addresses) h = let k = address-length (a ∷ addresses) in omega (arith, k, h)

addresses-few : (circuits : List Circuit) → length (addresses_of circuits) ≤ length circuits
addresses-few [] = omega arith
addresses-few (c ∷ circuits) = let k = addresses-few circuits in by-address c.address k
  where
    by-address : (a : Option ℕ) → length (addresses_of circuits) ≤ length circuits → length (with_address a (addresses_of circuits)) ≤ length (c ∷ circuits)
    by-address None k = omega (arith, k)
    by-address (Some a) k = omega (arith, k)

first-are : (r : Router) → AreTlvs (first_tlvs r)
first-are r =
    let addresses = addresses_of r.circuits in
    tlvs-joined (area_tlv r.config.areas ++ protocol_tlv ++ some_addresses (take 63 addresses)) (some_addresses (drop 63 addresses))
    (tlvs-joined (area_tlv r.config.areas ++ protocol_tlv) (some_addresses (take 63 addresses))
    (tlvs-joined (area_tlv r.config.areas) protocol_tlv (tlvs-one 1 (area_value r.config.areas)) (tlvs-one 129 (204 ∷ [])))
    (some-tlvs (take 63 addresses)))
    (some-tlvs (drop 63 addresses))

first-short : (r : Router) → length (area_value r.config.areas) ≤ 255 → length r.circuits ≤ 126 → length (first_tlvs r) ≤ 1446
first-short r areas few =
    let addresses = addresses_of r.circuits in
    let count = addresses-few r.circuits in
    let a = some-length (take 63 addresses) (let t = length-take 63 addresses in omega (arith, t)) in
    let b = some-length (drop 63 addresses) (let d = length-drop 63 addresses in omega (arith, d, count, few)) in
    grind (arith, length-append, areas, a, b)

-- ---- what is wanted

numbered-issuable : (key : Option (List ℕ)) (flags id : ℕ) (fragments : List (List ℕ)) → AllByRecursion (λ (f : List ℕ). AreTlvs f × (length f ≤ room_for key)) fragments → AllByRecursion (λ (w : ℕ × Contents). IsIssuable key w.1) (numbered flags id fragments)
numbered-issuable key flags id [] a = tt
numbered-issuable key flags id (f ∷ fragments) a = (record { tlvs = a.0.0; short = a.0.1 }, numbered-issuable key flags (id + 1) fragments a.1)

fragments-issuable : (key : Option (List ℕ)) (first flags id : ℕ) (fragments : List (List ℕ)) → AllByRecursion (λ (f : List ℕ). AreTlvs f × (length f ≤ room_for key)) fragments → AllByRecursion (λ (w : ℕ × Contents). IsIssuable key w.1) (fragments_of first flags id fragments)
fragments-issuable key first flags id [] a = tt
fragments-issuable key first flags id (f ∷ fragments) a = (record { tlvs = a.0.0; short = a.0.1 }, numbered-issuable key flags (id + 1) fragments a.1)

system_lsp-issuable : (given : Given) (before r : Router) (l : Level) → length (area_value r.config.areas) ≤ 255 → length r.circuits ≤ 126 → AllByRecursion (λ (w : ℕ × Contents). IsIssuable (at r.config.keys l) w.1) (system_lsp given before r l)
unfolding system_lsp
system_lsp-issuable given before r l areas few =
    let key = at r.config.keys l in
    let room = rooms key in
    fragments-issuable key _ _ _ _ (split-issuable key (first_tlvs r) _ (first-are r) (let s = first-short r areas few in omega (arith, s, room))
    (all-append (IsSmall (room_for key)) (node_items (all_nodes r.config l 0 r.circuits [])) (reach_items (prefixes_of given before r l)) (nodes-small (room_for key) _ room) (reach-small (room_for key) _ room)))

pseudonode_lsp-issuable : (r : Router) (place : ℕ) (c : Circuit) (l : Level) → AllByRecursion (λ (w : ℕ × Contents). IsIssuable (at r.config.keys l) w.1) (pseudonode_lsp r place c l)
unfolding pseudonode_lsp
pseudonode_lsp-issuable r place c l =
    let key = at r.config.keys l in
    choose (AllByRecursion (λ (w : ℕ × Contents). IsIssuable key w.1)) (is_own r.config (designated r.config place c l)) _ []
    (λ _. numbered-issuable key _ _ _ (split-issuable key [] _ tlvs-none (let room = rooms key in omega (arith, room)) (nodes-small (room_for key) _ (rooms key)))) (λ _. tt)

pseudonode_lsps-issuable : (r : Router) (l : Level) (place : ℕ) (circuits : List Circuit) → AllByRecursion (λ (w : ℕ × Contents). IsIssuable (at r.config.keys l) w.1) (pseudonode_lsps r l place circuits)
pseudonode_lsps-issuable r l place [] = tt
pseudonode_lsps-issuable r l place (c ∷ circuits) =
    all-append (λ (w : ℕ × Contents). IsIssuable (at r.config.keys l) w.1) (pseudonode_lsp r place c l) (pseudonode_lsps r l (place + 1) circuits) (pseudonode_lsp-issuable r place c l) (pseudonode_lsps-issuable r l (place + 1) circuits)

pub wanted-issuable : (given : Given) (before r : Router) (l : Level) → length (area_value r.config.areas) ≤ 255 → length r.circuits ≤ 126 → AllByRecursion (λ (w : ℕ × Contents). IsIssuable (at r.config.keys l) w.1) (wanted given before r l)
unfolding wanted
wanted-issuable given before r l areas few =
    choose (AllByRecursion (λ (w : ℕ × Contents). IsIssuable (at r.config.keys l) w.1)) (at r.config.runs l) _ []
    (λ _. all-append (λ (w : ℕ × Contents). IsIssuable (at r.config.keys l) w.1) (system_lsp given before r l) (pseudonode_lsps r l 0 r.circuits) (system_lsp-issuable given before r l areas few) (pseudonode_lsps-issuable r l 0 r.circuits))
    (λ _. tt)

-- ---- what is one's own

-- a fact of each from facts under two premises
each-own : (A B : Type 0) (r : Router) (l : Level) (wants : List (ℕ × Contents)) → (A → AllByRecursion (λ (w : ℕ × Contents). w.0 / 65536 ≡ r.config.system) wants) → (A → B → AllByRecursion (λ (w : ℕ × Contents). IsIssuable (at r.config.keys l) w.1) wants)
    → ((id : ℕ) (contents : Contents) → (A → id / 65536 ≡ r.config.system) → (A → B → IsIssuable (at r.config.keys l) contents) → IsOwnLsp r l id contents) → AllByRecursion (λ (w : ℕ × Contents). IsOwnLsp r l w.0 w.1) wants
each-own A B r l [] f g make = tt
each-own A B r l (w ∷ wants) f g make = (make w.0 w.1 (λ a. (f a).0) (λ a b. (g a b).0), each-own A B r l wants (λ a. (f a).1) (λ a b. (g a b).1) make)

pub wanted-mine : (given : Given) (r now : Router) (l : Level) → now.config ≡ r.config → length now.circuits ≡ length r.circuits → AllByRecursion (λ (w : ℕ × Contents). IsOwnLsp r l w.0 w.1) (wanted given r now l)
wanted-mine given r now l config circuits = each-own (IsGoodConfig r) (IsTelling r) r l (wanted given r now l)
    (λ good. subst (λ (c : Config). AllByRecursion (λ (w : ℕ × Contents). w.0 / 65536 ≡ c.system) (wanted given r now l)) config (wanted-own given r now l (let few = good.circuits in omega (arith, few, circuits))))
    (λ good telling. subst (λ (c : Config). AllByRecursion (λ (w : ℕ × Contents). IsIssuable (at c.keys l) w.1) (wanted given r now l)) config
    (wanted-issuable given r now l (subst (λ (c : Config). length (area_value c.areas) ≤ 255) (sym config) telling.areas) (let few = telling.circuits in omega (arith, few, circuits))))
    (λ id contents own fits. record { own = own; fits = fits })

bare-mine : (r : Router) (l : Level) (id : ℕ) → id / 65536 ≡ r.config.system → IsOwnLsp r l id (bare r)
bare-mine r l id own = record { own = λ _. own; fits = λ _ _. record { tlvs = tlvs-none; short = (let room = rooms (at r.config.keys l) in omega (arith, room)) } }

find-own : (r : Router) (l : Level) (wants : List (ℕ × Contents)) (id : ℕ) → id / 65536 ≡ r.config.system → AllByRecursion (λ (w : ℕ × Contents). IsOwnLsp r l w.0 w.1) wants → IsOwnLsp r l id (contents_or (find wants id) (bare r))
find-own r l [] id own all = bare-mine r l id own
find-own r l (w ∷ wants) id own all = choose (λ (o : Option Contents). IsOwnLsp r l id (contents_or o (bare r))) (w.0 == id) (Some w.1) (find wants id)
    (λ _. record { own = λ _. own; fits = all.0.fits }) (λ _. find-own r l wants id own all.1)

-- what an own LSP says when it is outbid
pub answer-mine : (given : Given) (r : Router) (l : Level) (id : ℕ) → id / 65536 ≡ r.config.system → IsOwnLsp r l id (answer_of (scene_of given r l) id)
answer-mine given r l id own = find-own r l (wanted given r r l) id own (wanted-mine given r r l refl refl)
