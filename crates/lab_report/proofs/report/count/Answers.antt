-- Each router counts by itself.
use Rattle.std.proofs.Common.{◌≡◌, Bool, if◌then◌else◌, ap, ◌∙◌, arith}
use Rattle.network_lab.specs.LinkStates.{runs_at}
use Rattle.lab_report.proofs.ReportLemmas.{next-counts}
use Rattle.lab_report.proofs.report.count.Goals as goal

pub loop-router-preserved : goal.loop-router-preserved
loop-router-preserved c =
    let next = next-counts c.args.net.now.seen.routers c.loop-router.router c.args.level
    (omega (arith, c.loop-router-test.true, c.routers-router-end.ensures)) in
    let one : c.one_if-count.result ≡ (if runs_at c.args.net.now.seen.routers c.loop-router.router c.args.level then 1 else 0)
    = c.one_if-count.ensures.value ∙ ap (λ (b : Bool). if b then 1 else 0) c.is_running.ensures in
    record {
      all = omega (arith, next, one, c.loop-router.invariant.all);
      few = omega (arith, c.one_if-count.ensures.few, c.loop-router.invariant.few);
    }
