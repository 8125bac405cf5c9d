use Rattle.std.proofs.Common.{sym, arith}
use Rattle.isis_base.proofs.OrderLemmas.{slice_cmp-push}
use Rattle.isis_base.proofs.laws.node_order_law.Goals as goal

pub returns : goal.returns
returns c =
    let a = c.args.a in
    let b = c.args.b in
    sym (slice_cmp-push a.system.0 b.system.0 a.pseudonode b.pseudonode (omega arith))
