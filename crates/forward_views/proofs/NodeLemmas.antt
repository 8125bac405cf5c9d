-- Node IDs as numbers: one number is one node, and that of a system is a multiple of 65,536.
use Rattle.std.proofs.Common.{◌≡◌, ℕ, ◌%◌, ◌*◌, ◌<◌, true, List, [], ◌∷◌, ◌++◌, length, refl, sym, ap, arith}
use Rattle.std.specs.List.{AllByRecursion}
use Rattle.std.specs.Int.{from_be_bytes, w64}
use Rattle.std.proofs.lemmas.Bool.{eqb-true, eq-eqb}
use Rattle.isis_base.specs.declared.identifiers.NodeId.{NodeId}
use Rattle.isis_base.specs.declared.identifiers.LspId.{LspId}
use Rattle.isis_base.specs.Identifiers.{IsId, lsp_number}
use Rattle.isis_base.proofs.ArrayLemmas.{lsp_number-one}
use Rattle.model_router.specs.Numbers.{system_id, lsp_id}
use Rattle.lsp_view.specs.Views.{own_node}
use Rattle.spf_tree.specs.Nodes.{node_number, is_system}

-- a node's LSP of number 0
abbrev pub zero_of : NodeId → LspId
zero_of node = record { node = node; number = 0 }

-- ---- identifiers of the model's numbers

pub lsp-id : (n : ℕ) → IsId (lsp_id n)
lsp-id n = record { six = refl; small = (omega arith, (omega arith, (omega arith, (omega arith, (omega arith, (omega arith, (omega arith, (omega arith, tt)))))))) }

pub own-id : (n : ℕ) → IsId (zero_of (own_node (system_id n)))
own-id n = record { six = refl; small = (omega arith, (omega arith, (omega arith, (omega arith, (omega arith, (omega arith, (omega arith, (omega arith, tt)))))))) }

zero-small : (xs : List ℕ) (x : ℕ) → AllByRecursion (λ o. o < 256) (xs ++ x ∷ []) → AllByRecursion (λ o. o < 256) (xs ++ 0 ∷ [])
zero-small [] x all = (omega arith, tt)
zero-small (y ∷ xs) x all = (all.0, zero-small xs x all.1)

pub zero-id : (id : LspId) → IsId id → IsId (zero_of id.node)
zero-id id is = record { six = is.six; small = zero-small (id.node.system.0 ++ id.node.pseudonode ∷ []) id.number is.small }

-- ---- one number is one node

pub node-one : (a b : NodeId) → IsId (zero_of a) → IsId (zero_of b) → node_number a ≡ node_number b → a ≡ b
unfolding node_number
node-one a b of_a of_b same = ap (λ (id : LspId). id.node) (lsp_number-one (zero_of a) (zero_of b) of_a of_b same)

pub own-is : (node : NodeId) → node.pseudonode ≡ 0 → own_node node.system ≡ node
own-is node is = λ i. record { system = node.system; pseudonode = sym is i }

-- ---- systems among nodes

left : (xs : List ℕ) (p : ℕ) → length xs ≡ 6 → p < 256 → from_be_bytes w64 ((xs ++ p ∷ []) ++ 0 ∷ []) % 65536 ≡ 256 * p
left (a ∷ b ∷ c ∷ d ∷ e ∷ f ∷ []) p six small = omega arith
left [] p six small = absurd (omega arith)
left (a ∷ []) p six small = absurd (omega arith)
left (a ∷ b ∷ []) p six small = absurd (omega arith)
left (a ∷ b ∷ c ∷ []) p six small = absurd (omega arith)
left (a ∷ b ∷ c ∷ d ∷ []) p six small = absurd (omega arith)
left (a ∷ b ∷ c ∷ d ∷ e ∷ []) p six small = absurd (omega arith)
left (a ∷ b ∷ c ∷ d ∷ e ∷ f ∷ g ∷ xs) p six small = absurd (omega arith)

second-small : (xs : List ℕ) (p x : ℕ) → AllByRecursion (λ o. o < 256) ((xs ++ p ∷ []) ++ x ∷ []) → p < 256
second-small [] p x all = all.0
second-small (y ∷ xs) p x all = second-small xs p x all.1

node-left : (node : NodeId) → IsId (zero_of node) → node_number node % 65536 ≡ 256 * node.pseudonode
unfolding node_number lsp_number
node-left node is = left node.system.0 node.pseudonode is.six (second-small node.system.0 node.pseudonode 0 is.small)

pub system-there : (node : NodeId) → IsId (zero_of node) → is_system (node_number node) ≡ true → node.pseudonode ≡ 0
system-there node is system = let e = eqb-true (node_number node % 65536) 0 system in let l = node-left node is in omega (arith, e, l)

pub there-system : (node : NodeId) → IsId (zero_of node) → node.pseudonode ≡ 0 → is_system (node_number node) ≡ true
there-system node is none = let l = node-left node is in eq-eqb (node_number node % 65536) 0 (omega (arith, l, none))
