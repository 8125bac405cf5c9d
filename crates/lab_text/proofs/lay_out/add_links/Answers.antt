use Rattle.std.proofs.Common.{◌+◌, length, take, drop, sym, ap, ◌∙◌, subst}
use Rattle.network_lab.specs.LabNets.{LabNet}
use Rattle.lab_text.specs.Layouts as layout
use Rattle.lab_text.specs.Setups.{HasLinks}
use Rattle.lab_text.proofs.TurnLemmas.{links-at, links-turn, next-for}
use Rattle.lab_text.proofs.lay_out.add_links.Goals as goal

pub add_laid-requires-clause-next : goal.add_laid-requires-clause-next
add_laid-requires-clause-next c =
    next-for c.args.script.now c.links-links.result.now c.loop-link.net c.loop-link.link-index c.link-item.result c.links-links.ensures.sound c.links-links.ensures.links c.loop-link-test.true c.link-item.is c.loop-link.invariant.has

pub loop-link-preserved : goal.loop-link-preserved
loop-link-preserved c =
    let routers = c.routers-routers.result.now in
    let links = c.links-links.result.now in
    let told = c.link-item.result in
    let i = c.loop-link.link-index in
    let count = length c.args.script.now.routers in
    let next = next-for c.args.script.now links c.loop-link.net i told c.links-links.ensures.sound c.links-links.ensures.links c.loop-link-test.true c.link-item.is c.loop-link.invariant.has in
    record {
      left = ap (λ (a : LabNet). layout.with_links routers (drop (i + 1) links) a) c.in-Ok.ensures ∙ sym (links-at routers links c.loop-link.net i told c.loop-link-test.true c.link-item.is) ∙ c.loop-link.invariant.left;
      has = subst (λ (a : LabNet). HasLinks count (take (i + 1) links) a) (sym c.in-Ok.ensures)
          (links-turn count routers links c.loop-link.net i told c.loop-link-test.true c.link-item.is next c.loop-link.invariant.has);
    }
