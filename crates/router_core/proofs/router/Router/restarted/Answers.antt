use Rattle.std.proofs.Common.{sym, subst, arith}
use Rattle.router_core.specs.Reached.{IsReached}
use Rattle.router_core.proofs.router.Router.restarted.Goals as goal

-- src/router.rt
pub begun-requires : goal.begun-requires
begun-requires g c = subst IsReached (sym c.in_ok-parts.ensures) (c.reached_laws.ensures.restart c.self.inside.parts c.args.boot c.self.invariant.reached (omega (arith, c.requires)))
