use Rattle.std.proofs.Common.{◌-◌, ◌==◌, arith}
use Rattle.model_router.specs.Routers.{with_circuit}
use Rattle.router_core.specs.Pulled.{after_hello}
use Rattle.router_core.proofs.PullLemmas.{gone-then, gone-else}
use Rattle.router_core.proofs.parts.Parts.hello_gone.Goals as goal

-- src/pull_parts.rt
pub returns-then-due : goal.returns-then-due
unfolding after_hello
returns-then-due c =
    gone-then c.args.self.now c.hello_sent.new.self (c.args.circuit - 1) c.args.due
    (λ x. x.hello == 0)
    (λ x. with_circuit c.args.self.now (c.args.circuit - 1) (record x { hello = 10 }))
    (omega (arith, c.requires.there)) c.if-due.true c.requires.due
    c.hello_sent.ensures

-- src/pull_parts.rt
pub returns-else-due : goal.returns-else-due
unfolding after_hello
returns-else-due c =
    gone-else c.args.self.now (c.args.circuit - 1) c.args.due
    (λ x. x.hello == 0)
    (λ x. with_circuit c.args.self.now (c.args.circuit - 1) (record x { hello = 10 }))
    (omega (arith, c.requires.there)) c.if-due.false c.requires.due
