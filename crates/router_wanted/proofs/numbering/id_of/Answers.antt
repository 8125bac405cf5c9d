use Rattle.std.proofs.Common.{◌≡◌, ◌<◌, length, arith}
use Rattle.router_wanted.proofs.PartLemmas.{id-number}
use Rattle.router_wanted.proofs.numbering.id_of.Goals as goal

pub returns : goal.returns
returns c =
    let six : length c.args.node.system.0 ≡ 6 = omega arith in
    let small : c.args.node.pseudonode < 256 = omega arith in
    id-number c.args.node c.args.number six small c.requires
