-- The system of a next hop's number.
use Rattle.std.proofs.Common.{◌≡◌, ◌∙◌, ℕ, List, [], ◌∷◌, ◌++◌, take, refl, ap, arith}
use Rattle.std.specs.Int.{to_be_bytes, w64}
use Rattle.std.proofs.lemmas.List.{take_at, append_assoc, length-append}
use Rattle.std.proofs.lemmas.Nat.{be_bytes_8}
use Rattle.isis_base.specs.declared.identifiers.SystemId.{SystemId}
use Rattle.isis_base.specs.declared.identifiers.LspId.{LspId}
use Rattle.isis_base.specs.Identifiers.{IsId, lsp_octets, lsp_number, system_from}
use Rattle.isis_base.proofs.ArrayLemmas.{small-at}
use Rattle.spf_tree.specs.Nodes.{node_number, system_node}
use Rattle.route_text.specs.ViaText.{system_of_node}

-- the octets of an LSP ID's number are its own
octets-again : (id : LspId) → IsId id → to_be_bytes w64 (lsp_number id) ≡ lsp_octets id
unfolding lsp_number
octets-again id is =
    let long = length-append (id.node.system.0 ++ id.node.pseudonode ∷ []) (id.number ∷ []) in
    let node = length-append id.node.system.0 (id.node.pseudonode ∷ []) in
    be_bytes_8 (lsp_octets id) (lsp_number id) (omega (arith, long, node, is.six)) (small-at (lsp_octets id) is.small) refl

-- a system is that of its node's number
pub system-again : (system : SystemId) → IsId (record { node = record { system = system; pseudonode = 0 }; number = 0 }) → system_of_node (system_node system) ≡ system
unfolding node_number
system-again system is =
    let front = append_assoc system.0 (0 ∷ []) (0 ∷ []) in
    ap (λ (octets : List ℕ). system_from (take 6 octets)) (octets-again _ is ∙ front)
    ∙ ap system_from (take_at system.0 (0 ∷ 0 ∷ []) 6 is.six)
