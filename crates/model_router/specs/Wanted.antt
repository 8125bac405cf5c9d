-- The own LSPs that a level wants (ISO 10589 7.3.7 to 7.3.10): the system's, and a pseudonode's for
-- each LAN on which the router is designated, each split into fragments.
use Rattle.std.specs.Prelude.{ℕ, ◌+◌, ◌*◌, Bool, ◌&&◌, ◌||◌, not, List, [], ◌∷◌, ◌++◌, take, drop, Option, Some, None, is_some, if◌then◌else◌}
use Rattle.isis_base.specs.declared.level.Level.{Level}
use Rattle.isis_base.specs.declared.level.Level.TheVariants as level
use Rattle.isis_tlv.specs.Spelling.{area_tlv, protocol_tlv, address_tlv}
use Rattle.model_router.specs.Both.{at, is_level}
use Rattle.model_router.specs.Configs.{Config}
use Rattle.model_router.specs.Routers.{Circuit, Contents, Router}
use Rattle.model_router.specs.Elections.{designated, is_own}
use Rattle.model_router.specs.Givens.{Given}
use Rattle.model_router.specs.Splits.{split}
use Rattle.model_router.specs.LspNeighbours.{all_nodes, lan_nodes, node_items}
use Rattle.model_router.specs.LspPrefixes.{prefixes_of, reach_items}

-- ---- what fragment 0 of the system's LSP begins with: area addresses, IPv4, circuits' addresses

-- RFC 1195 5.3
abbrev pub with_address : Option ℕ → List ℕ → List ℕ
with_address None addresses = addresses
with_address (Some address) addresses = address ∷ addresses

-- the circuits' addresses, in order, repeats kept (own)
abbrev pub addresses_of : List Circuit → List ℕ
addresses_of [] = []
addresses_of (c ∷ circuits) = with_address c.address (addresses_of circuits)

-- RFC 1195 5.3
abbrev pub some_addresses : List ℕ → List ℕ
some_addresses [] = []
some_addresses (address ∷ addresses) = address_tlv (address ∷ addresses)

-- at most 63 addresses to a TLV, and two TLVs, which is enough for 64 circuits (9.8, RFC 1195 5.3)
abbrev pub first_tlvs : Router → List ℕ
first_tlvs r =
    let addresses = addresses_of r.circuits in
    area_tlv r.config.areas ++ protocol_tlv ++ some_addresses (take 63 addresses)
    ++ some_addresses (drop 63 addresses)

-- ---- the flags octet (ISO 10589 9.8)

-- the IS type: 1 of a router that runs L1 alone, else 3 (9.8)
abbrev pub is_type : Config → ℕ
is_type config = if config.runs.two then 3 else 1

-- number 0 of the system's LSP: overload where it is configured or entries were left out (ISO 10589
-- 7.3.19), and in the L1 LSP of an L1L2 router whether it is attached (ISO 10589 7.2.9.2)
abbrev pub first_flags : Given → Router → Router → Level → Bool → ℕ
first_flags given before r l whole =
    is_type r.config
    + (if r.config.overload || not whole then 4 else 0)
    + (if is_level l level.One && r.config.runs.two && given.attached before then 8 else 0)

-- ---- fragments

-- the octets that a fragment's TLVs may take: 1,492 less the header, and less the authentication
-- where there is a key (7.3.4; 1,492: own)
abbrev pub room_for : Option (List ℕ) → ℕ
room_for key = if is_some key then 1446 else 1465

-- a level's (own)
abbrev pub room_of : Config → Level → ℕ
room_of config l = room_for (at config.keys l)

-- fragments with their LSP IDs, from a first one on (7.3.4)
abbrev pub numbered : ℕ → ℕ → List (List ℕ) → List (ℕ × Contents)
numbered flags id [] = []
numbered flags id (tlvs ∷ fragments) =
    (id, record { flags = flags; tlvs = tlvs }) ∷ numbered flags (id + 1) fragments

-- the first fragment has flags of its own (7.3.4)
abbrev pub fragments_of : ℕ → ℕ → ℕ → List (List ℕ) → List (ℕ × Contents)
fragments_of first flags id [] = []
fragments_of first flags id (tlvs ∷ fragments) =
    (id, record { flags = first; tlvs = tlvs }) ∷ numbered flags (id + 1) fragments

-- the system's LSP (7.3.7, 7.3.9)
unfoldable pub system_lsp : Given → Router → Router → Level → List (ℕ × Contents)
system_lsp given before r l =
    let items = node_items (all_nodes r.config l 0 r.circuits [])
    ++ reach_items (prefixes_of given before r l) in
    let parts = split (first_tlvs r) items (room_of r.config l) in
    fragments_of (first_flags given before r l parts.whole) (is_type r.config)
    (65536 * r.config.system) parts.fragments

-- a LAN's pseudonode LSP, where the router is designated: the router and all up neighbours (7.3.8,
-- 7.3.10)
unfoldable pub pseudonode_lsp : Router → ℕ → Circuit → Level → List (ℕ × Contents)
pseudonode_lsp r place c l =
    let items = node_items (lan_nodes (at c.levels l).heard ((256 * r.config.system, 0) ∷ [])) in
    let parts = split [] items (room_of r.config l) in
    if is_own r.config (designated r.config place c l)
    then numbered (is_type r.config) (65536 * r.config.system + 256 * (place + 1)) parts.fragments
    else []

-- those of all circuits, from a place on (own)
abbrev pub pseudonode_lsps : Router → Level → ℕ → List Circuit → List (ℕ × Contents)
pseudonode_lsps r l place [] = []
pseudonode_lsps r l place (c ∷ circuits) =
    pseudonode_lsp r place c l ++ pseudonode_lsps r l (place + 1) circuits

-- what is wanted on a level, by the routes of the state before the event (own) and the adjacencies
-- and configuration now
unfoldable pub wanted : Given → Router → Router → Level → List (ℕ × Contents)
wanted given before r l =
    if at r.config.runs l then system_lsp given before r l ++ pseudonode_lsps r l 0 r.circuits
    else []

-- an own LSP that is outbid while it isn't wanted says its IS type alone (own)
abbrev pub bare : Router → Contents
bare r = record { flags = is_type r.config; tlvs = [] }
