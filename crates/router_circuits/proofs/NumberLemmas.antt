-- A node ID's octets give the same number as those of its first LSP ID.
use Rattle.std.proofs.Common.{◌≡◌, ◌<◌, ◌/◌, ℕ, List, [], ◌∷◌, length, arith}
use Rattle.isis_base.specs.declared.identifiers.NodeId.{NodeId}
use Rattle.isis_base.specs.Identifiers.{lsp_number}
use Rattle.model_router.specs.Numbers.{node_number}

nodes : (xs : List ℕ) (p : ℕ) → length xs ≡ 6 → p < 256 → lsp_number (record { node = record { system = record { 0 = xs }; pseudonode = p }; number = 0 }) / 256 ≡ node_number (record { system = record { 0 = xs }; pseudonode = p })
unfolding lsp_number
nodes [] p six small = absurd (omega arith)
nodes (a ∷ []) p six small = absurd (omega arith)
nodes (a ∷ b ∷ []) p six small = absurd (omega arith)
nodes (a ∷ b ∷ c ∷ []) p six small = absurd (omega arith)
nodes (a ∷ b ∷ c ∷ d ∷ []) p six small = absurd (omega arith)
nodes (a ∷ b ∷ c ∷ d ∷ e ∷ []) p six small = absurd (omega arith)
nodes (a ∷ b ∷ c ∷ d ∷ e ∷ f ∷ []) p six small = omega (arith, small)
nodes (a ∷ b ∷ c ∷ d ∷ e ∷ f ∷ g ∷ xs) p six small = absurd (omega arith)

pub first-lsp : (node : NodeId) → length node.system.0 ≡ 6 → node.pseudonode < 256 → lsp_number (record { node = node; number = 0 }) / 256 ≡ node_number node
first-lsp node six small = nodes node.system.0 node.pseudonode six small
