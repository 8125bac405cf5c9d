use Rattle.std.proofs.Common.{◌≡◌, List, ℕ, [], ◌∷◌, ◌++◌, length, ap, arith}
use Rattle.isis_base.proofs.ArrayLemmas.{list_of_6}
use Rattle.isis_base.proofs.lsp_number.octets_of_lsp.Goals as goal

pub returns-clause-value : goal.returns-clause-value
returns-clause-value c =
    let id = c.args.id in
    let six : length id.node.system.0 ≡ 6 = omega arith in
    ap (λ (s : List ℕ). s ++ id.node.pseudonode ∷ [] ++ id.number ∷ []) (list_of_6 id.node.system.0 six)
