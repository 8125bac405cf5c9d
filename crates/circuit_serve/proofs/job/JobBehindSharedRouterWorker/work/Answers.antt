use Rattle.std.proofs.Common.{rules, ◌≡◌, Some, sym, ◌∙◌, subst}
use Rattle.circuit_threads.specs.Sharing.{first_router}
use Rattle.circuit_serve.specs.declared.job.Task.TheVariants.{Ticker, Circuit}
use Rattle.circuit_serve.specs.Jobs.{IsReady, KeepsOpening}
use Rattle.circuit_serve.proofs.Jobs.{circuit_ran, ticker_ran}
use Rattle.circuit_serve.proofs.job.JobBehindSharedRouterWorker.work.Goals as goal

pub tick-pass-requires-clause-lock : goal.tick-pass-requires-clause-lock
tick-pass-requires-clause-lock g c =
    let self = c.args.self.now in
    let is : self.pass ≡ Some c.in-Some.pass = search rules in let r = c.requires c.in-Some.pass is in
    let p = subst (λ t. IsReady g.P.Port.given g.P.Port.offered g.P.Port.asked g.T.Pacer.given g.T.Pacer.ended (first_router self.shared.now) t self.turns c.in-Some.pass) c.in-Ticker.is r.2 in
    (r.0, p)

pub tick-pass-requires-clause-fresh : goal.tick-pass-requires-clause-fresh
tick-pass-requires-clause-fresh g c =
    let self = c.args.self.now in
    let is : self.pass ≡ Some c.in-Some.pass = search rules in let r = c.requires c.in-Some.pass is in
    let p = subst (λ t. IsReady g.P.Port.given g.P.Port.offered g.P.Port.asked g.T.Pacer.given g.T.Pacer.ended (first_router self.shared.now) t self.turns c.in-Some.pass) c.in-Ticker.is r.2 in
    r.1

pub work-pass-requires-clause-lock : goal.work-pass-requires-clause-lock
work-pass-requires-clause-lock g c =
    let self = c.args.self.now in
    let is : self.pass ≡ Some c.in-Some.pass = search rules in let r = c.requires c.in-Some.pass is in
    let p = subst (λ t. IsReady g.P.Port.given g.P.Port.offered g.P.Port.asked g.T.Pacer.given g.T.Pacer.ended (first_router self.shared.now) t self.turns c.in-Some.pass) c.in-Circuit.is r.2 in
    (r.0, p.0, p.1)

pub work-pass-requires-clause-there : goal.work-pass-requires-clause-there
work-pass-requires-clause-there g c =
    let self = c.args.self.now in
    let is : self.pass ≡ Some c.in-Some.pass = search rules in let r = c.requires c.in-Some.pass is in
    let p = subst (λ t. IsReady g.P.Port.given g.P.Port.offered g.P.Port.asked g.T.Pacer.given g.T.Pacer.ended (first_router self.shared.now) t self.turns c.in-Some.pass) c.in-Circuit.is r.2 in
    p.2

pub work-pass-requires-clause-fresh : goal.work-pass-requires-clause-fresh
work-pass-requires-clause-fresh g c =
    let self = c.args.self.now in
    let is : self.pass ≡ Some c.in-Some.pass = search rules in let r = c.requires c.in-Some.pass is in
    let p = subst (λ t. IsReady g.P.Port.given g.P.Port.offered g.P.Port.asked g.T.Pacer.given g.T.Pacer.ended (first_router self.shared.now) t self.turns c.in-Some.pass) c.in-Circuit.is r.2 in
    r.1

pub work-pass-requires-clause-port : goal.work-pass-requires-clause-port
work-pass-requires-clause-port g c =
    let self = c.args.self.now in
    let is : self.pass ≡ Some c.in-Some.pass = search rules in let r = c.requires c.in-Some.pass is in
    let p = subst (λ t. IsReady g.P.Port.given g.P.Port.offered g.P.Port.asked g.T.Pacer.given g.T.Pacer.ended (first_router self.shared.now) t self.turns c.in-Some.pass) c.in-Circuit.is r.2 in
    p.3

pub returns-in-Ticker : goal.returns-in-Ticker
returns-in-Ticker g c = (
  subst (λ t. KeepsOpening g.P.Port.opening t (Ticker c.tick-pass.new.pacer)) (sym c.in-Ticker.is) tt,
  λ x e.
      let is : c.args.self.now.pass ≡ Some c.in-Some.pass = search rules in
      let w = c.tick-pass.ensures in let self = c.args.self.now in
      ticker_ran g.P.Port.given g.P.Port.offered g.P.Port.asked g.T.Pacer.given g.T.Pacer.ended self.shared.now self.turns self.task c.in-Some.pass x c.tick-pass.result.0 c.tick-pass.result.1
      (cc (sym is ∙ e)) w.lock.0 w.left w.marked c.in-Ticker.pacer c.tick-pass.new.pacer c.in-Ticker.is w.lock.1 w.ticked,
)

pub returns-in-Circuit : goal.returns-in-Circuit
returns-in-Circuit g c = (
  subst (λ t. KeepsOpening g.P.Port.opening t (Circuit c.in-Circuit.circuit c.work-pass.new.port)) (sym c.in-Circuit.is) c.work-pass.ensures.opening,
  λ x e.
      let is : c.args.self.now.pass ≡ Some c.in-Some.pass = search rules in
      let r = c.requires c.in-Some.pass is in
      let self = c.args.self.now in
      let p = subst (λ t. IsReady g.P.Port.given g.P.Port.offered g.P.Port.asked g.T.Pacer.given g.T.Pacer.ended (first_router self.shared.now) t self.turns c.in-Some.pass) c.in-Circuit.is r.2 in
      let w = c.work-pass.ensures in
      circuit_ran g.P.Port.given g.P.Port.offered g.P.Port.asked g.T.Pacer.given g.T.Pacer.ended self.shared.now self.turns self.task c.in-Some.pass x c.work-pass.result.0 c.work-pass.result.1
      (cc (sym is ∙ e)) w.lock.0 w.left w.marked c.in-Circuit.circuit c.in-Circuit.port c.work-pass.new.port c.in-Circuit.is p.0 w.lock.1 w.ran,
)
