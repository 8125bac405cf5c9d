-- What the values of TLVs say, of all TLVs of a code in their order (ISO 10589 9.5, 9.10, RFC 5303
-- 3.1).
use Rattle.std.specs.Prelude.{ℕ, ◌==◌, Bool, false, ◌||◌, List, [], ◌∷◌, Option, Some, None, Result, unwrap_or, if◌then◌else◌}
use Rattle.std.specs.List.{flat_map}
use Rattle.std.specs.Option.{option_map}
use Rattle.isis_base.specs.declared.identifiers.Snpa.{Snpa}
use Rattle.isis_base.specs.declared.identifiers.SystemId.{SystemId}
use Rattle.isis_base.specs.declared.entry.LspEntry.{LspEntry}
use Rattle.isis_base.specs.Identifiers.{lsp_number}
use Rattle.isis_base.specs.Keys.{entry_rank}
use Rattle.isis_tlv.specs.declared.fault.ValueFault.{ValueFault}
use Rattle.isis_tlv.specs.declared.three_way.ThreeWay.{ThreeWay}
use Rattle.isis_tlv.specs.Tlvs.{TlvView, tlv_list}
use Rattle.isis_tlv.specs.Items.{areas_of, snpas_of, entries_of, three_way_of}
use Rattle.model_router.specs.SnpTable.{SnpEntry}
use Rattle.model_router.specs.Adjacencies.{Handshake}
use Rattle.model_router.specs.Numbers.{system_number, snpa_number}

-- what one TLV says where it has the code, by a reader of values (9)
abbrev pub items_if : {X : Type 0} → ℕ → (List ℕ → List (Result X ValueFault)) → TlvView
    → List (Result X ValueFault)
items_if code reader tlv = if tlv.code == code then reader tlv.value else []

-- what all TLVs of a code say, each with its fault (9)
unfoldable pub items_in : {X : Type 0} → ℕ → (List ℕ → List (Result X ValueFault)) → List ℕ
    → List (Result X ValueFault)
items_in code reader octets = flat_map (items_if code reader) (tlv_list 0 octets)

-- 9.5
abbrev pub areas_in : List ℕ → List (Result (List ℕ) ValueFault)
areas_in octets = items_in 1 areas_of octets

-- 9.5
abbrev pub snpas_in : List ℕ → List (Result Snpa ValueFault)
snpas_in octets = items_in 6 snpas_of octets

-- 9.10
abbrev pub entries_in : List ℕ → List (Result LspEntry ValueFault)
entries_in octets = items_in 9 entries_of octets

-- RFC 5303 3.1
abbrev pub handshakes_in : List ℕ → List (Result ThreeWay ValueFault)
handshakes_in octets = items_in 240 (λ value. three_way_of value ∷ []) octets

-- an LSP entry as the model has it (9.10)
abbrev pub snp_entry : LspEntry → SnpEntry
snp_entry entry = record {
  id = lsp_number entry.id;
  rank = entry_rank entry;
  lifetime = entry.lifetime;
  checksum = entry.checksum;
}

-- whether an SNPA stands in a list (own)
abbrev pub lists : ℕ → List Snpa → Bool
lists snpa [] = false
lists snpa (first ∷ snpas) = (snpa_number first == snpa) || lists snpa snpas

-- a three-way value as the model has it; an own ID that isn't there counts as 0 (own)
abbrev pub handshake : ThreeWay → Handshake
handshake value = record {
  state = value.state;
  extended = unwrap_or value.own_id 0;
  names = option_map (λ (heard : SystemId × ℕ). (system_number heard.0, heard.1)) value.neighbour;
}

-- the first three-way value counts (own)
abbrev pub first_handshake : List ThreeWay → Option Handshake
first_handshake [] = None
first_handshake (value ∷ values) = Some (handshake value)
