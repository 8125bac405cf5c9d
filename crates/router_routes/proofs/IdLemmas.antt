-- LSP IDs and nodes as numbers: a node's LSPs are the 256 numbers from its own on.
use Rattle.std.proofs.Common.{◌≡◌, ℕ, ◌+◌, ◌%◌, ◌^◌, ◌<◌, List, [], ◌∷◌, ◌++◌, length, refl, arith}
use Rattle.std.specs.List.{AllByRecursion}
use Rattle.std.specs.Int.{from_be_bytes, w64}
use Rattle.isis_base.specs.declared.identifiers.NodeId.{NodeId}
use Rattle.isis_base.specs.declared.identifiers.LspId.{LspId}
use Rattle.isis_base.specs.Identifiers.{IsId, lsp_number}
use Rattle.lsp_view.specs.Views.{number_of}
use Rattle.spf_tree.specs.Nodes.{node_number}

-- eight octets in two ways
octets-are : (xs : List ℕ) (p x : ℕ) → length xs ≡ 6 → from_be_bytes w64 ((xs ++ p ∷ []) ++ x ∷ []) ≡ from_be_bytes w64 ((xs ++ p ∷ []) ++ 0 ∷ []) + x
octets-are (a ∷ b ∷ c ∷ d ∷ e ∷ f ∷ []) p x six = omega arith
octets-are [] p x six = absurd (omega arith)
octets-are (a ∷ []) p x six = absurd (omega arith)
octets-are (a ∷ b ∷ []) p x six = absurd (omega arith)
octets-are (a ∷ b ∷ c ∷ []) p x six = absurd (omega arith)
octets-are (a ∷ b ∷ c ∷ d ∷ []) p x six = absurd (omega arith)
octets-are (a ∷ b ∷ c ∷ d ∷ e ∷ []) p x six = absurd (omega arith)
octets-are (a ∷ b ∷ c ∷ d ∷ e ∷ f ∷ g ∷ xs) p x six = absurd (omega arith)

no-rest : (xs : List ℕ) (p : ℕ) → length xs ≡ 6 → from_be_bytes w64 ((xs ++ p ∷ []) ++ 0 ∷ []) % 256 ≡ 0
no-rest (a ∷ b ∷ c ∷ d ∷ e ∷ f ∷ []) p six = omega arith
no-rest [] p six = absurd (omega arith)
no-rest (a ∷ []) p six = absurd (omega arith)
no-rest (a ∷ b ∷ []) p six = absurd (omega arith)
no-rest (a ∷ b ∷ c ∷ []) p six = absurd (omega arith)
no-rest (a ∷ b ∷ c ∷ d ∷ []) p six = absurd (omega arith)
no-rest (a ∷ b ∷ c ∷ d ∷ e ∷ []) p six = absurd (omega arith)
no-rest (a ∷ b ∷ c ∷ d ∷ e ∷ f ∷ g ∷ xs) p six = absurd (omega arith)

last-small : (xs : List ℕ) (x : ℕ) → AllByRecursion (λ o. o < 256) (xs ++ x ∷ []) → x < 256
last-small [] x all = all.0
last-small (y ∷ xs) x all = last-small xs x all.1

below : (xs : List ℕ) (p x : ℕ) → length xs ≡ 6 → AllByRecursion (λ o. o < 256) ((xs ++ p ∷ []) ++ x ∷ []) → from_be_bytes w64 ((xs ++ p ∷ []) ++ x ∷ []) < 2 ^ 64
below (a ∷ b ∷ c ∷ d ∷ e ∷ f ∷ []) p x six all = omega (arith, all)
below [] p x six all = absurd (omega arith)
below (a ∷ []) p x six all = absurd (omega arith)
below (a ∷ b ∷ []) p x six all = absurd (omega arith)
below (a ∷ b ∷ c ∷ []) p x six all = absurd (omega arith)
below (a ∷ b ∷ c ∷ d ∷ []) p x six all = absurd (omega arith)
below (a ∷ b ∷ c ∷ d ∷ e ∷ []) p x six all = absurd (omega arith)
below (a ∷ b ∷ c ∷ d ∷ e ∷ f ∷ g ∷ xs) p x six all = absurd (omega arith)

-- a number 0 is the node
pub number-0 : (node : NodeId) → number_of node 0 ≡ node_number node
unfolding node_number
number-0 node = refl

-- where an LSP ID stands among the numbers of its node
pub record Stands (id : LspId) : Type 0 where
  pub is : lsp_number id ≡ node_number id.node + id.number
  pub small : id.number < 256
  pub first : node_number id.node % 256 ≡ 0
  pub most : lsp_number id < 2 ^ 64

pub stands : (id : LspId) → IsId id → Stands id
unfolding lsp_number node_number
stands id is = record {
  is = octets-are id.node.system.0 id.node.pseudonode id.number is.six;
  small = last-small (id.node.system.0 ++ id.node.pseudonode ∷ []) id.number is.small;
  first = no-rest id.node.system.0 id.node.pseudonode is.six;
  most = below id.node.system.0 id.node.pseudonode id.number is.six is.small;
}
