-- The number of a system's node.

use Rattle.std.proofs.Common.{◌≡◌, ◌∙◌, ℕ, ◌<◌, ◌%◌, true, List, [], ◌∷◌, ◌++◌, length, ap, arith}
use Rattle.std.specs.Int.{from_be_bytes, w64}
use Rattle.std.proofs.lemmas.Bool.{eqb-true, eq-eqb}
use Rattle.isis_base.specs.declared.identifiers.LspId.{LspId}
use Rattle.isis_base.specs.declared.identifiers.NodeId.{NodeId}
use Rattle.isis_base.specs.Identifiers.{lsp_number}
use Rattle.spf_tree.specs.Nodes.{node_number, system_node, is_system}

last_two : (xs : List ℕ) (p k n : ℕ) → length xs ≡ 6 → p < 256 → k < 256 → from_be_bytes w64 ((xs ++ p ∷ []) ++ k ∷ []) ≡ n → n % 65536 ≡ 0 → from_be_bytes w64 ((xs ++ 0 ∷ []) ++ 0 ∷ []) ≡ n
last_two (a ∷ b ∷ c ∷ d ∷ e ∷ f ∷ []) p k n six small_p small_k is system = omega arith
last_two [] p k n six small_p small_k is system = absurd (omega arith)
last_two (a ∷ []) p k n six small_p small_k is system = absurd (omega arith)
last_two (a ∷ b ∷ []) p k n six small_p small_k is system = absurd (omega arith)
last_two (a ∷ b ∷ c ∷ []) p k n six small_p small_k is system = absurd (omega arith)
last_two (a ∷ b ∷ c ∷ d ∷ []) p k n six small_p small_k is system = absurd (omega arith)
last_two (a ∷ b ∷ c ∷ d ∷ e ∷ []) p k n six small_p small_k is system = absurd (omega arith)
last_two (a ∷ b ∷ c ∷ d ∷ e ∷ f ∷ g ∷ xs) p k n six small_p small_k is system = absurd (omega arith)

pub system_is : (id : LspId) (n : ℕ) → length id.node.system.0 ≡ 6 → id.node.pseudonode < 256 → id.number < 256 → lsp_number id ≡ n → is_system n ≡ true → system_node id.node.system ≡ n
unfolding lsp_number node_number
system_is id n six small_p small_k is system = last_two id.node.system.0 id.node.pseudonode id.number n six small_p small_k is (eqb-true (n % 65536) 0 system)

last_zero : (xs : List ℕ) → length xs ≡ 6 → from_be_bytes w64 ((xs ++ 0 ∷ []) ++ 0 ∷ []) % 65536 ≡ 0
last_zero (a ∷ b ∷ c ∷ d ∷ e ∷ f ∷ []) six = omega arith
last_zero [] six = absurd (omega arith)
last_zero (a ∷ []) six = absurd (omega arith)
last_zero (a ∷ b ∷ []) six = absurd (omega arith)
last_zero (a ∷ b ∷ c ∷ []) six = absurd (omega arith)
last_zero (a ∷ b ∷ c ∷ d ∷ []) six = absurd (omega arith)
last_zero (a ∷ b ∷ c ∷ d ∷ e ∷ []) six = absurd (omega arith)
last_zero (a ∷ b ∷ c ∷ d ∷ e ∷ f ∷ g ∷ xs) six = absurd (omega arith)

pub system_by : (node : NodeId) → length node.system.0 ≡ 6 → node.pseudonode ≡ 0 → is_system (node_number node) ≡ true
unfolding lsp_number node_number
system_by node six zero =
    eq-eqb (node_number node % 65536) 0 (ap (λ (p : ℕ). from_be_bytes w64 ((node.system.0 ++ p ∷ []) ++ 0 ∷ []) % 65536) zero ∙ last_zero node.system.0 six)
