-- Identifiers and the octets of their arrays.
use Rattle.std.proofs.Common.{◌≡◌, ◌<◌, ℕ, zero, suc, List, [], ◌∷◌, length, get_or, refl, sym, ap, ◌∙◌, subst, arith, ◌++◌, length-append}
use Rattle.std.specs.List.{AllByRecursion}
use Rattle.isis_base.specs.declared.identifiers.LspId.{LspId}
use Rattle.std.specs.Int.{to_be_bytes, from_be_bytes, w64}
use Rattle.std.proofs.lemmas.Nat.{be_bytes_8}
use Rattle.isis_base.specs.Identifiers.{IsId, lsp_number, lsp_octets, lsp_from}

-- a list of a known length is its elements
pub list_of_6 : (xs : List ℕ) → length xs ≡ 6 → get_or xs 0 0 ∷ get_or xs 1 0 ∷ get_or xs 2 0 ∷ get_or xs 3 0 ∷ get_or xs 4 0 ∷ get_or xs 5 0 ∷ [] ≡ xs
list_of_6 [] h = absurd (omega arith)
list_of_6 (x0 ∷ []) h = absurd (omega arith)
list_of_6 (x0 ∷ x1 ∷ []) h = absurd (omega arith)
list_of_6 (x0 ∷ x1 ∷ x2 ∷ []) h = absurd (omega arith)
list_of_6 (x0 ∷ x1 ∷ x2 ∷ x3 ∷ []) h = absurd (omega arith)
list_of_6 (x0 ∷ x1 ∷ x2 ∷ x3 ∷ x4 ∷ []) h = absurd (omega arith)
list_of_6 (x0 ∷ x1 ∷ x2 ∷ x3 ∷ x4 ∷ x5 ∷ []) h = refl
list_of_6 (x0 ∷ x1 ∷ x2 ∷ x3 ∷ x4 ∷ x5 ∷ x6 ∷ xs) h = absurd (omega arith)

pub list_of_8 : (xs : List ℕ) → length xs ≡ 8 → get_or xs 0 0 ∷ get_or xs 1 0 ∷ get_or xs 2 0 ∷ get_or xs 3 0 ∷ get_or xs 4 0 ∷ get_or xs 5 0 ∷ get_or xs 6 0 ∷ get_or xs 7 0 ∷ [] ≡ xs
list_of_8 [] h = absurd (omega arith)
list_of_8 (x0 ∷ []) h = absurd (omega arith)
list_of_8 (x0 ∷ x1 ∷ []) h = absurd (omega arith)
list_of_8 (x0 ∷ x1 ∷ x2 ∷ []) h = absurd (omega arith)
list_of_8 (x0 ∷ x1 ∷ x2 ∷ x3 ∷ []) h = absurd (omega arith)
list_of_8 (x0 ∷ x1 ∷ x2 ∷ x3 ∷ x4 ∷ []) h = absurd (omega arith)
list_of_8 (x0 ∷ x1 ∷ x2 ∷ x3 ∷ x4 ∷ x5 ∷ []) h = absurd (omega arith)
list_of_8 (x0 ∷ x1 ∷ x2 ∷ x3 ∷ x4 ∷ x5 ∷ x6 ∷ []) h = absurd (omega arith)
list_of_8 (x0 ∷ x1 ∷ x2 ∷ x3 ∷ x4 ∷ x5 ∷ x6 ∷ x7 ∷ []) h = refl
list_of_8 (x0 ∷ x1 ∷ x2 ∷ x3 ∷ x4 ∷ x5 ∷ x6 ∷ x7 ∷ x8 ∷ xs) h = absurd (omega arith)

-- LSP IDs of six octets and two are told apart by their octets
pub lsp-same : (a b : LspId) → length a.node.system.0 ≡ 6 → length b.node.system.0 ≡ 6 → lsp_octets a ≡ lsp_octets b → a ≡ b
lsp-same a b p q e =
    let x = list_of_6 a.node.system.0 p in
    let y = list_of_6 b.node.system.0 q in
    let whole : get_or a.node.system.0 0 0 ∷ get_or a.node.system.0 1 0 ∷ get_or a.node.system.0 2 0 ∷ get_or a.node.system.0 3 0 ∷ get_or a.node.system.0 4 0 ∷ get_or a.node.system.0 5 0 ∷ a.node.pseudonode ∷ a.number ∷ [] ≡ get_or b.node.system.0 0 0 ∷ get_or b.node.system.0 1 0 ∷ get_or b.node.system.0 2 0 ∷ get_or b.node.system.0 3 0 ∷ get_or b.node.system.0 4 0 ∷ get_or b.node.system.0 5 0 ∷ b.node.pseudonode ∷ b.number ∷ [] =
    ap (λ (s : List ℕ). s ++ a.node.pseudonode ∷ [] ++ a.number ∷ []) x ∙ e ∙ sym (ap (λ (s : List ℕ). s ++ b.node.pseudonode ∷ [] ++ b.number ∷ []) y) in
    let firsts : get_or a.node.system.0 0 0 ∷ get_or a.node.system.0 1 0 ∷ get_or a.node.system.0 2 0 ∷ get_or a.node.system.0 3 0 ∷ get_or a.node.system.0 4 0 ∷ get_or a.node.system.0 5 0 ∷ [] ≡ get_or b.node.system.0 0 0 ∷ get_or b.node.system.0 1 0 ∷ get_or b.node.system.0 2 0 ∷ get_or b.node.system.0 3 0 ∷ get_or b.node.system.0 4 0 ∷ get_or b.node.system.0 5 0 ∷ [] = cc in
    let system : a.node.system.0 ≡ b.node.system.0 = sym x ∙ firsts ∙ y in
    let pseudonode : a.node.pseudonode ≡ b.node.pseudonode = cc in
    let number : a.number ≡ b.number = cc in
    λ i. record { node = record { system = record { 0 = system i }; pseudonode = pseudonode i }; number = number i }

-- an LSP ID is that of its octets
pub lsp_from-octets : (a : LspId) → length a.node.system.0 ≡ 6 → lsp_from (lsp_octets a) ≡ a
lsp_from-octets a h =
    let family : List ℕ → Type 0 = λ (s : List ℕ). lsp_from (s ++ a.node.pseudonode ∷ [] ++ a.number ∷ []) ≡ record { node = record { system = record { 0 = s }; pseudonode = a.node.pseudonode }; number = a.number } in
    subst family (list_of_6 a.node.system.0 h) refl

-- each place of a list of octets has an octet; past the end there is 0
pub small-at : (xs : List ℕ) → AllByRecursion (λ x. x < 256) xs → (i : ℕ) → get_or xs i 0 < 256
small-at [] h i = omega arith
small-at (x ∷ xs) h zero = h.0
small-at (x ∷ xs) h (suc i) = small-at xs h.1 i

-- LSP IDs of one number are one
pub lsp_number-one : (a b : LspId) → IsId a → IsId b → lsp_number a ≡ lsp_number b → a ≡ b
unfolding lsp_number
lsp_number-one a b p q same =
    let six = p.six in
    let other_six = q.six in
    let eight : length (lsp_octets a) ≡ 8 = omega (arith, length-append a.node.system.0 (a.node.pseudonode ∷ []), length-append (a.node.system.0 ++ a.node.pseudonode ∷ []) (a.number ∷ [])) in
    let other_eight : length (lsp_octets b) ≡ 8 = omega (arith, length-append b.node.system.0 (b.node.pseudonode ∷ []), length-append (b.node.system.0 ++ b.node.pseudonode ∷ []) (b.number ∷ [])) in
    let of_a : to_be_bytes w64 (lsp_number a) ≡ lsp_octets a = be_bytes_8 (lsp_octets a) (lsp_number a) eight (small-at (lsp_octets a) p.small) refl in
    let of_b : to_be_bytes w64 (lsp_number b) ≡ lsp_octets b = be_bytes_8 (lsp_octets b) (lsp_number b) other_eight (small-at (lsp_octets b) q.small) refl in
    lsp-same a b p.six q.six (sym of_a ∙ ap (to_be_bytes w64) same ∙ of_b)
