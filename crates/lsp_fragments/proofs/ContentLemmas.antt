-- A content's entries as the router's model has them.
use Rattle.std.proofs.Common.{◌≡◌, ℕ, ◌+◌, ◌*◌, ◌/◌, ◌%◌, ◌≤◌, List, [], ◌∷◌, ◌++◌, map, take, drop, length, if◌then◌else◌, refl, sym, ap, ◌∙◌, arith, append_assoc, length-append}
use Rattle.std.specs.Int.{to_be_bytes, w64}
use Rattle.std.proofs.lemmas.Nat.{be_bytes_8}
use Rattle.std.proofs.Math.Nat.{div-div-eq-div-mul}
use Rattle.std.proofs.Math.Seq.{take-append_seam}
use Rattle.std.specs.List.{AllByRecursion}
use Rattle.isis_base.specs.declared.identifiers.LspId.{LspId}
use Rattle.isis_base.specs.Fields.{u24_octets, u32_octets}
use Rattle.isis_base.specs.Identifiers.{IsId, lsp_number, lsp_octets, node_octets}
use Rattle.isis_base.proofs.ArrayLemmas.{small-at}
use Rattle.isis_tlv.specs.declared.neighbour.NeighbourItem.{NeighbourItem}
use Rattle.isis_tlv.specs.declared.prefix.PrefixItem.{PrefixItem}
use Rattle.isis_tlv.specs.Items.{octets_for}
use Rattle.isis_tlv.specs.Spelling.{area_tlv, protocol_tlv}
use Rattle.model_router.specs.Routers.{Router}
use Rattle.model_router.specs.LspNeighbours.{u56_octets, node_items}
use Rattle.model_router.specs.LspPrefixes.{Reach, reach_items}
use Rattle.model_router.specs.Wanted.{some_addresses, addresses_of, first_tlvs}
use Rattle.model_router.specs.Splits.{Item}
use Rattle.model_router.specs.SplitLaws.{IsSmall}
use Rattle.std.proofs.lemmas.List.{length-take}
use Rattle.lsp_fragments.specs.Entries.{neighbour_entry, prefix_entry, address_tlvs, node_and_metric, reach_pair}

-- ---- neighbours

octets-of : (n : ℕ) → u56_octets (n / 256) ++ n % 256 ∷ [] ≡ to_be_bytes w64 n
octets-of n = simp div-div-eq-div-mul refl

front : (xs ys us vs : List ℕ) → length xs ≡ length ys → xs ++ us ≡ ys ++ vs → xs ≡ ys
front xs ys us vs count same =
    sym (take-append_seam xs us) ∙ ap (take (length xs)) same ∙ ap (λ (n : ℕ). take n (ys ++ vs)) count ∙ take-append_seam ys vs

id-octets : (id : LspId) → IsId id → to_be_bytes w64 (lsp_number id) ≡ lsp_octets id
unfolding lsp_number
id-octets id is =
    let six = is.six in
    let count : length (lsp_octets id) ≡ 8 = omega (arith, six, length-append id.node.system.0 (id.node.pseudonode ∷ []), length-append (id.node.system.0 ++ id.node.pseudonode ∷ []) (id.number ∷ [])) in
    be_bytes_8 (lsp_octets id) (lsp_number id) count (small-at (lsp_octets id) is.small) refl

neighbour-octets : (item : NeighbourItem) → IsId (record { node = item.node; number = 0 }) → u56_octets (node_and_metric item).0 ≡ node_octets item.node
neighbour-octets item is =
    let n = lsp_number (record { node = item.node; number = 0 }) in
    let six = is.six in
    let count : length (u56_octets (n / 256)) ≡ length (node_octets item.node) = (let k = length-append item.node.system.0 (item.node.pseudonode ∷ []) in omega (arith, k, six)) in
    front (u56_octets (n / 256)) (node_octets item.node) (n % 256 ∷ []) (0 ∷ []) count (octets-of n ∙ id-octets (record { node = item.node; number = 0 }) is)

pub neighbours-same : (list : List NeighbourItem) → AllByRecursion (λ (item : NeighbourItem). IsId (record { node = item.node; number = 0 })) list → node_items (map node_and_metric list) ≡ map neighbour_entry list
neighbours-same [] are = refl
neighbours-same (item ∷ list) are =
    ap (λ (octets : List ℕ). record { code = 22; octets = octets ++ u24_octets item.metric ++ 0 ∷ [] } ∷ node_items (map node_and_metric list)) (neighbour-octets item are.0)
    ∙ ap (λ (rest : List Item). neighbour_entry item ∷ rest) (neighbours-same list are.1)

-- ---- prefixes

prefix-same : (item : PrefixItem) (prefixes : List (ℕ × Reach)) → reach_items (reach_pair item ∷ prefixes) ≡ prefix_entry item ∷ reach_items prefixes
prefix-same item prefixes =
    let fits = item.prefix.fits in
    let low : (64 * item.prefix.address + item.prefix.length) % 64 ≡ item.prefix.length = omega (arith, fits) in
    let high : (64 * item.prefix.address + item.prefix.length) / 64 ≡ item.prefix.address = omega (arith, fits) in
    ap (λ (n : ℕ). record { code = 135; octets = u32_octets item.metric ++ ((if item.down then 128 else 0) + n) ∷ take (octets_for n) (u32_octets ((64 * item.prefix.address + item.prefix.length) / 64)) } ∷ reach_items prefixes) low
    ∙ ap (λ (n : ℕ). record { code = 135; octets = u32_octets item.metric ++ ((if item.down then 128 else 0) + item.prefix.length) ∷ take (octets_for item.prefix.length) (u32_octets n) } ∷ reach_items prefixes) high

pub prefixes-same : (list : List PrefixItem) → reach_items (map reach_pair list) ≡ map prefix_entry list
prefixes-same [] = refl
prefixes-same (item ∷ list) = prefix-same item (map reach_pair list) ∙ ap (λ (rest : List Item). prefix_entry item ∷ rest) (prefixes-same list)

-- ---- what fragment 0 begins with

pub first-same : (r : Router) → first_tlvs r ≡ area_tlv r.config.areas ++ (protocol_tlv ++ address_tlvs (addresses_of r.circuits))
unfolding address_tlvs
first-same r = append_assoc (area_tlv r.config.areas ++ protocol_tlv) (some_addresses (take 63 (addresses_of r.circuits))) (some_addresses (drop 63 (addresses_of r.circuits)))
    ∙ append_assoc (area_tlv r.config.areas) protocol_tlv (some_addresses (take 63 (addresses_of r.circuits)) ++ some_addresses (drop 63 (addresses_of r.circuits)))

-- ---- each entry fits

neighbour-small : (room : ℕ) (item : NeighbourItem) → 1400 ≤ room → length item.node.system.0 ≡ 6 → IsSmall room (neighbour_entry item)
neighbour-small room item h six =
    let a = length-append item.node.system.0 (item.node.pseudonode ∷ []) in
    let b = length-append (node_octets item.node) (u24_octets item.metric) in
    let c = length-append (node_octets item.node ++ u24_octets item.metric) (0 ∷ []) in
    record { code = omega arith; value = omega (arith, a, b, c, six); fits = omega (arith, a, b, c, six, h) }

prefix-small : (room : ℕ) (item : PrefixItem) → 1400 ≤ room → IsSmall room (prefix_entry item)
prefix-small room item h =
    let n = length-take (octets_for item.prefix.length) (u32_octets item.prefix.address) in
    record { code = omega arith; value = omega (arith, n); fits = omega (arith, n, h) }

pub entries-small : (room : ℕ) (neighbours : List NeighbourItem) (prefixes : List PrefixItem) → 1400 ≤ room → AllByRecursion (λ (item : NeighbourItem). length item.node.system.0 ≡ 6) neighbours → AllByRecursion (IsSmall room) (map neighbour_entry neighbours ++ map prefix_entry prefixes)
entries-small room [] [] h six = tt
entries-small room [] (item ∷ prefixes) h six = (prefix-small room item h, entries-small room [] prefixes h six)
entries-small room (item ∷ neighbours) prefixes h six = (neighbour-small room item h six.0, entries-small room neighbours prefixes h six.1)
