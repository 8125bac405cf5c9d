use Rattle.std.proofs.Common.{◌≡◌, ◌<◌, length, arith}
use Rattle.router_circuits.proofs.NumberLemmas.{first-lsp}
use Rattle.router_wanted.proofs.nodes.number.Goals as goal

pub returns-clause-same : goal.returns-clause-same
returns-clause-same c =
    let six : length c.args.node.system.0 ≡ 6 = omega arith in
    let small : c.args.node.pseudonode < 256 = omega arith in
    first-lsp c.args.node six small
