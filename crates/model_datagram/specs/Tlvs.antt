-- The TLVs of hellos and SNPs, in their order (ISO 10589 9.5 to 9.13, RFC 1195 5.3, RFC 5303 3.1;
-- the order: own).
use Rattle.std.specs.Prelude.{ℕ, zero, suc, List, [], ◌∷◌, ◌++◌, length, take, drop, map, Option, Some, None}
use Rattle.std.specs.List.{flat_map}
use Rattle.std.specs.Option.{option_map}
use Rattle.isis_base.specs.declared.entry.LspEntry.{LspEntry}
use Rattle.isis_tlv.specs.declared.three_way.Adj.{Adj}
use Rattle.isis_tlv.specs.declared.three_way.ThreeWay.{ThreeWay}
use Rattle.isis_tlv.specs.Spelling.{area_tlv, snpa_tlv, entry_tlv, protocol_tlv, address_tlv, three_way_tlv}
use Rattle.model_router.specs.Ranks.{number_of}
use Rattle.model_router.specs.SnpTable.{SnpEntry}
use Rattle.model_router.specs.Numbers.{system_id, snpa_id, lsp_id}

-- a list in pieces of a size, of so many pieces at most (own)
abbrev pub in_pieces : {X : Type 0} → ℕ → ℕ → List X → List (List X)
in_pieces zero size list = []
in_pieces (suc count) size [] = []
in_pieces (suc count) size (x ∷ list) =
    take size (x ∷ list) ∷ in_pieces count size (drop size (x ∷ list))

-- ---- hellos

-- an address where one is configured (RFC 1195 5.3)
abbrev pub own_address : Option ℕ → List ℕ
own_address None = []
own_address (Some address) = address_tlv (address ∷ [])

-- area addresses, IPv4, and the circuit's address, before what else a hello has (9.5 to 9.7)
abbrev pub hello_tlvs : List (List ℕ) → Option ℕ → List ℕ → List ℕ
hello_tlvs areas address others =
    area_tlv areas ++ (protocol_tlv ++ (own_address address ++ others))

-- the state, the extended circuit ID, and the neighbour where one is kept (RFC 5303 3.1)
abbrev pub three_way_value : Adj → ℕ → Option (ℕ × ℕ) → ThreeWay
three_way_value state extended names = record {
  state = state;
  own_id = Some extended;
  neighbour = option_map (λ (name : ℕ × ℕ). (system_id name.0, name.1)) names;
}

-- RFC 5303 3.1
abbrev pub point_tlvs : List (List ℕ) → Option ℕ → Adj → ℕ → Option (ℕ × ℕ) → List ℕ
point_tlvs areas address state extended names =
    hello_tlvs areas address (three_way_tlv (three_way_value state extended names))

-- the SNPAs heard, 42 to a TLV (9.5)
abbrev pub snpa_tlvs : List ℕ → List ℕ
snpa_tlvs snpas =
    flat_map (λ (piece : List ℕ). snpa_tlv (map snpa_id piece)) (in_pieces (length snpas) 42 snpas)

-- 9.5
abbrev pub lan_tlvs : List (List ℕ) → Option ℕ → List ℕ → List ℕ
lan_tlvs areas address snpas = hello_tlvs areas address (snpa_tlvs snpas)

-- ---- SNPs

-- an LSP entry of the model's (9.10)
abbrev pub lsp_entry : SnpEntry → LspEntry
lsp_entry h =
    record {
      lifetime = h.lifetime;
      id = lsp_id h.id;
      number = number_of h.rank;
      checksum = h.checksum;
    }

-- the entries, 15 to a TLV (9.10)
abbrev pub entry_tlvs : List SnpEntry → List ℕ
entry_tlvs entries =
    flat_map (λ (piece : List SnpEntry). entry_tlv (map lsp_entry piece))
    (in_pieces (length entries) 15 entries)
