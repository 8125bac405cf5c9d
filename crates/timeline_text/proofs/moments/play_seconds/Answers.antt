use Rattle.std.proofs.Common.{◌∙◌, ◌+◌, subst, arith}
use Rattle.model_network.specs.Networks.{Network}
use Rattle.network_lab.specs.LabNets.{StandsFor}
use Rattle.timeline_text.specs.Playing.{run_by}
use Rattle.timeline_text.proofs.MomentLemmas.{one-later, second-added, seconds-end, seconds-fault}
use Rattle.timeline_text.proofs.moments.play_seconds.Goals as goal

pub loop-second-preserved : goal.loop-second-preserved
loop-second-preserved c =
    let run = c.args.run in
    let k = c.loop-second.second in
    let held = c.loop-second.invariant in
    record {
      stands = λ m s. subst (λ (n : Network). StandsFor n c.play_second.new.net) (one-later run k m) (c.in-Ok.ensures.ends (run_by run k m) (held.stands m s)).0;
      added = λ m s. second-added c.args.address c.args.line run k m c.args.page.now c.loop-second.page c.play_second.new.page (held.added m s) (c.in-Ok.ensures.ends (run_by run k m) (held.stands m s)).1;
      goes_on = c.in-Ok.ensures.goes_on;
      links = c.in-Ok.ensures.links ∙ held.links;
      routers = c.in-Ok.ensures.routers ∙ held.routers;
    }

pub returns-in-Err-clause-ends : goal.returns-in-Err-clause-ends
returns-in-Err-clause-ends c = λ m s.
    seconds-fault c.args.address c.args.line c.args.run c.loop-second.second (c.loop-second.second + 1) m c.play_second.new.net c.args.page.now c.loop-second.page c.play_second.new.page c.in-Err.fault c.loop-second-test.true
    (c.in-Err.ensures.ends (run_by c.args.run c.loop-second.second m) (c.loop-second.invariant.stands m s))

pub returns-clause-ends : goal.returns-clause-ends
returns-clause-ends c = λ m s.
    seconds-end c.args.address c.args.line c.args.run c.loop-second.second m c.loop-second.net c.args.page.now c.loop-second.page (omega (arith, c.loop-second-test.false)) c.facts.ensures.few
    (c.loop-second.invariant.stands m s) (c.loop-second.invariant.added m s)
