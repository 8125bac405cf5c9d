use Rattle.std.proofs.Common.{◌+◌, drop, get_or, sym, ap, ◌∙◌}
use Rattle.network_lab.specs.LabNets.{LabNet}
use Rattle.lab_script.specs.declared.setup.End.{End}
use Rattle.lab_text.specs.Layouts as layout
use Rattle.lab_text.proofs.SetupLemmas.{priorities-at, ends-left, priority-begun}
use Rattle.lab_text.proofs.lay_out.set_priorities.Goals as goal

pub loop-end-preserved : goal.loop-end-preserved
loop-end-preserved c =
    let routers = c.args.routers.now in
    let ends = c.args.ends.now in
    let i = c.loop-end.end-index in
    let net = c.loop-end.net in
    let none : End = record { router = 0; place = 0 } in
    let new = c.in-Ok.ensures in
    record {
      left = ap (λ (a : LabNet). layout.with_priorities routers (drop (i + 1) ends) a) new ∙ sym (priorities-at routers ends net i none c.loop-end-test.true) ∙ c.loop-end.invariant.left;
      there = ends-left routers ends net c.set_priority.new.net i none c.loop-end-test.true new c.loop-end.invariant.there;
      early = priority-begun routers (get_or ends i none) net c.set_priority.new.net new c.loop-end.invariant.early;
    }
