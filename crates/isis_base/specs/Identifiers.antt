-- Node IDs and LSP IDs as octets, and LSP IDs as numbers (ISO 10589 7.2.1, 9.8; the numbers: own).
use Rattle.std.specs.Prelude.{◌≡◌, ℕ, ◌<◌, List, [], ◌∷◌, ◌++◌, length, take, slice_index}
use Rattle.std.specs.List.{AllByRecursion}
use Rattle.std.specs.Int.{from_be_bytes, w64}
use Rattle.isis_base.specs.declared.identifiers.SystemId.{SystemId}
use Rattle.isis_base.specs.declared.identifiers.NodeId.{NodeId}
use Rattle.isis_base.specs.declared.identifiers.LspId.{LspId}

-- the seven octets of a node ID: the system ID and the pseudonode number (ISO 10589 7.2.1)
abbrev pub node_octets : NodeId → List ℕ
node_octets node = node.system.0 ++ node.pseudonode ∷ []

-- the eight octets of an LSP ID: the node ID and the LSP number (ISO 10589 9.8)
abbrev pub lsp_octets : LspId → List ℕ
lsp_octets id = node_octets id.node ++ id.number ∷ []

-- what an LSP ID of the program is: a system ID of six octets, and each octet is below 256 (own)
pub record IsId (id : LspId) : Type 0 where
  pub six : length id.node.system.0 ≡ 6
  pub small : AllByRecursion (λ octet. octet < 256) (lsp_octets id)

-- an LSP ID as a number: its eight octets, the first one the greatest
unfoldable pub lsp_number : LspId → ℕ
lsp_number id = from_be_bytes w64 (lsp_octets id)

-- the LSP ID of eight octets
abbrev pub lsp_from : List ℕ → LspId
lsp_from octets =
    let system : SystemId = record { 0 = take 6 octets } in
    let node : NodeId = record { system = system; pseudonode = slice_index octets 6 } in
    record { node = node; number = slice_index octets 7 }

-- the system ID of six octets
abbrev pub system_from : List ℕ → SystemId
system_from octets = record { 0 = octets }
