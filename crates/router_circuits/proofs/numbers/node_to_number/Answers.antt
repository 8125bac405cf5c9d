use Rattle.std.proofs.Common.{◌≡◌, ◌<◌, ◌/◌, ℕ, length, ap, ◌∙◌, arith}
use Rattle.router_circuits.proofs.NumberLemmas.{first-lsp}
use Rattle.router_circuits.proofs.numbers.node_to_number.Goals as goal

pub returns-clause-value : goal.returns-clause-value
returns-clause-value c =
    let six : length c.args.node.system.0 ≡ 6 = omega arith in
    let small : c.args.node.pseudonode < 256 = omega arith in
    ap (λ (n : ℕ). n / 256) c.to_number.ensures ∙ first-lsp c.args.node six small
