use Rattle.network_lab.proofs.StateLemmas.{some-of, point-at}
use Rattle.std.proofs.Common.{sym, ◌∙◌}
use Rattle.network_lab.proofs.network.Network.is_point.Goals as goal

pub returns-then-is_some : goal.returns-then-is_some
returns-then-is_some g c =
    point-at c.args.self.now.seen.routers c.args.end c.args.level c.router_of-router.result.now c.desk.result.now c.kind.result c.circuit_of-circuit.result c.is_point.result
    (some-of c.book.result _ _ c.book.ensures (sym c.is_some.ensures ∙ c.if-is_some.true)).1.0 c.router_of-router.ensures c.circuit_of-circuit.ensures.number c.desk.ensures c.kind.ensures c.is_point.ensures
