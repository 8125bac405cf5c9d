-- System IDs, SNPAs, node IDs and LSP IDs as the model's numbers: their octets, the first one the
-- greatest (ISO 10589 7.1).
use Rattle.std.specs.Prelude.{ℕ, ◌+◌, ◌*◌, ◌/◌, ◌%◌, List, ◌++◌}
use Rattle.isis_base.specs.declared.identifiers.SystemId.{SystemId}
use Rattle.isis_base.specs.declared.identifiers.Snpa.{Snpa}
use Rattle.isis_base.specs.declared.identifiers.NodeId.{NodeId}
use Rattle.isis_base.specs.declared.identifiers.LspId.{LspId}
use Rattle.isis_base.specs.Fields.{u16_at, u32_at, u16_octets, u32_octets}

-- a number in six octets, and the number of six octets (7.1)
abbrev pub u48_octets : ℕ → List ℕ
u48_octets n = u16_octets (n / 4294967296) ++ u32_octets n

-- 7.1
abbrev pub u48_of : List ℕ → ℕ
u48_of octets = 4294967296 * u16_at 0 octets + u32_at 2 octets

-- the identifiers of numbers (7.1)
abbrev pub system_id : ℕ → SystemId
system_id n = record { 0 = u48_octets n }

-- 7.1
abbrev pub snpa_id : ℕ → Snpa
snpa_id n = record { 0 = u48_octets n }

-- 7.1
abbrev pub node_id : ℕ → NodeId
node_id n = record { system = system_id (n / 256); pseudonode = n % 256 }

-- 7.1
abbrev pub lsp_id : ℕ → LspId
lsp_id n = record { node = node_id (n / 256); number = n % 256 }

-- the numbers of identifiers; an LSP ID's is `lsp_number` (7.1)
abbrev pub system_number : SystemId → ℕ
system_number system = u48_of system.0

-- 7.1
abbrev pub snpa_number : Snpa → ℕ
snpa_number snpa = u48_of snpa.0

-- 7.1
abbrev pub node_number : NodeId → ℕ
node_number node = 256 * system_number node.system + node.pseudonode
