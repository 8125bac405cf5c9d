use Rattle.std.proofs.Common.{◌≡◌, ◌<◌, ◌∷◌, [], ◌∙◌, ℕ, List, length, sym, ap, subst, arith, length-append}
use Rattle.std.specs.declared.cmp.Ordering.{Ordering}
use Rattle.std.specs.List.{AllByRecursion}
use Rattle.std.specs.Ordering.{nat_cmp, ordering_then}
use Rattle.std.specs.Cmp.Lexicographic.{slice_cmp}
use Rattle.isis_base.specs.declared.identifiers.LspId.{LspId}
use Rattle.isis_base.specs.Identifiers.{node_octets, lsp_octets, lsp_number}
use Rattle.isis_base.proofs.OrderLemmas.{slice_cmp-push, slice_cmp-number}
use Rattle.isis_base.proofs.laws.lsp_order_law.Goals as goal

-- the parts decide as the octets do
by_octets : (a b : LspId) → length a.node.system.0 ≡ length b.node.system.0 → slice_cmp nat_cmp (lsp_octets a) (lsp_octets b) ≡ ordering_then (ordering_then (slice_cmp nat_cmp a.node.system.0 b.node.system.0) (nat_cmp a.node.pseudonode b.node.pseudonode)) (nat_cmp a.number b.number)
by_octets a b e =
    let nodes : length (node_octets a.node) ≡ length (node_octets b.node) = omega (arith, length-append a.node.system.0 (a.node.pseudonode ∷ []), length-append b.node.system.0 (b.node.pseudonode ∷ [])) in
    slice_cmp-push (node_octets a.node) (node_octets b.node) a.number b.number nodes
    ∙ ap (λ (o : Ordering). ordering_then o (nat_cmp a.number b.number)) (slice_cmp-push a.node.system.0 b.node.system.0 a.node.pseudonode b.node.pseudonode e)

pub returns-clause-octets : goal.returns-clause-octets
returns-clause-octets c = sym (by_octets c.args.a c.args.b (omega arith))

pub returns-clause-number : goal.returns-clause-number
unfolding lsp_number
returns-clause-number c =
    let a = c.args.a in
    let b = c.args.b in
    let small : List ℕ → Type 0 = λ (xs : List ℕ). AllByRecursion (λ octet. octet < 256) xs in
    let of_a : small (lsp_octets a) = subst small c.octets_of_lsp-of_a.ensures.value c.octets_of_lsp-of_a.ensures.small in
    let of_b : small (lsp_octets b) = subst small c.octets_of_lsp-of_b.ensures.value c.octets_of_lsp-of_b.ensures.small in
    let eight_a : length (lsp_octets a) ≡ 8 = omega (arith, ap length c.octets_of_lsp-of_a.ensures.value) in
    let eight_b : length (lsp_octets b) ≡ 8 = omega (arith, ap length c.octets_of_lsp-of_b.ensures.value) in
    sym (by_octets a b (omega arith)) ∙ slice_cmp-number (lsp_octets a) (lsp_octets b) eight_a eight_b of_a of_b
