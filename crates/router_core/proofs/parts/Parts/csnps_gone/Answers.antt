use Rattle.std.proofs.Common.{◌-◌, arith}
use Rattle.model_router.specs.Both.{at}
use Rattle.model_router.specs.Routers.{with_circuit}
use Rattle.model_router.specs.Pulls.{with_part, is_csnp_due, csnp_sent}
use Rattle.router_core.specs.Pulled.{after_csnps}
use Rattle.router_core.proofs.PullLemmas.{gone-then, gone-else}
use Rattle.router_core.proofs.parts.Parts.csnps_gone.Goals as goal

-- src/pull_parts.rt
pub returns-then-due : goal.returns-then-due
unfolding after_csnps
returns-then-due c =
    gone-then c.args.self.now c.csnps_sent.new.self (c.args.circuit - 1) c.args.due
    (λ x. is_csnp_due c.args.self.now.config (c.args.circuit - 1) x c.args.level)
    (λ x. with_circuit c.args.self.now (c.args.circuit - 1) (with_part x c.args.level (csnp_sent x.lan (at x.levels c.args.level))))
    (omega (arith, c.requires.there)) c.if-due.true c.requires.due
    c.csnps_sent.ensures

-- src/pull_parts.rt
pub returns-else-due : goal.returns-else-due
unfolding after_csnps
returns-else-due c =
    gone-else c.args.self.now (c.args.circuit - 1) c.args.due
    (λ x. is_csnp_due c.args.self.now.config (c.args.circuit - 1) x c.args.level)
    (λ x. with_circuit c.args.self.now (c.args.circuit - 1) (with_part x c.args.level (csnp_sent x.lan (at x.levels c.args.level))))
    (omega (arith, c.requires.there)) c.if-due.false c.requires.due
