-- Each router has its routes.
use Rattle.std.proofs.Common.{◌∙◌, [], ◌∷◌, length, ap, arith}
use Rattle.std.proofs.lemmas.List.{length-append}
use Rattle.lab_report.proofs.ReportLemmas.{nth-within, routes-more}
use Rattle.lab_report.proofs.report.routes_of.Goals as goal

pub loop-router-preserved : goal.loop-router-preserved
loop-router-preserved c = record {
  so_far = routes-more c.args.net.now.seen.routers c.loop-router.routes.items c.routes.result c.push.new.self.items c.loop-router.router c.router.result.now c.in-Ok.ensures.items c.loop-router.invariant.count c.router.ensures c.routes.ensures c.loop-router.invariant.so_far;
  count =
      let more = ap length c.in-Ok.ensures.items ∙ length-append c.loop-router.routes.items (c.routes.result ∷ []) in
      omega (arith, more, c.loop-router.invariant.count);
}

pub returns-clause-all : goal.returns-clause-all
returns-clause-all c = λ i r e.
    let within = nth-within c.args.net.now.seen.routers i r e in
    c.loop-router.invariant.so_far i r (omega (arith, within, c.loop-router-test.false, c.routers-router-end.ensures)) e
