use Rattle.std.proofs.Common.{List, Ok, Err, length, sym, ◌∙◌, subst, arith}
use Rattle.std.specs.List.{AllByRecursion}
use Rattle.std.proofs.lemmas.List.{drop_more}
use Rattle.lab_script.specs.declared.deeds.LabLine.{LabLine}
use Rattle.lab_script.specs.LabSound.{IsDeed}
use Rattle.timeline_text.specs.Playing.{LinesEnd}
use Rattle.timeline_text.proofs.PageLemmas.{none-added}
use Rattle.timeline_text.proofs.MomentLemmas.{start-leads, leads-on, leads-to-end, leads-to-fault}
use Rattle.timeline_text.proofs.moments.play_lines.Goals as goal

pub loop-line-init : goal.loop-line-init
loop-line-init c = record {
  leads = start-leads c.args.address c.args.net.now c.lines-lines.result.now c.args.page.now (none-added c.args.address c.args.page.now);
  goes_on = c.requires.goes_on;
  laid = c.requires.laid;
  deeds = subst (λ (ls : List LabLine). AllByRecursion (λ (line : LabLine). IsDeed (length c.args.script.now.routers) c.args.script.now.links line.deed) ls) (sym c.lines-lines.ensures.lines) c.lines-lines.ensures.sound.lines;
}

pub loop-line-preserved : goal.loop-line-preserved
loop-line-preserved c =
    let lines = c.lines-lines.result.now in
    let told = c.line-item.result in
    let i = c.loop-line.line-index in
    record {
      leads = leads-on c.args.address c.args.net.now lines c.loop-line.net c.play_moments.new.net i told c.args.page.now c.loop-line.page c.play_moments.new.page c.loop-line-test.true c.line-item.is c.loop-line.invariant.leads c.in-Ok.ensures.ends;
      goes_on = c.in-Ok.ensures.goes_on;
      laid = record {
        routers_are = c.in-Ok.ensures.routers ∙ c.loop-line.invariant.laid.routers_are;
        links_are = c.in-Ok.ensures.links ∙ c.loop-line.invariant.laid.links_are;
      };
      deeds = (subst (λ (ls : List LabLine). AllByRecursion (λ (line : LabLine). IsDeed (length c.args.script.now.routers) c.args.script.now.links line.deed) ls) (drop_more lines i told c.loop-line-test.true) c.loop-line.invariant.deeds).1;
    }

pub returns-in-Err : goal.returns-in-Err
returns-in-Err c = λ m s.
    let lines = c.lines-lines.result.now in
    subst (λ (ls : List LabLine). LinesEnd c.args.address ls m c.args.page.now c.play_moments.new.page (Err c.in-Err.fault)) c.lines-lines.ensures.lines
    (leads-to-fault c.args.address c.args.net.now lines c.loop-line.net c.play_moments.new.net c.loop-line.line-index c.line-item.result c.args.page.now c.loop-line.page c.play_moments.new.page c.in-Err.fault c.loop-line-test.true c.line-item.is c.loop-line.invariant.leads c.in-Err.ensures.ends m s)

pub returns : goal.returns
returns c = λ m s.
    subst (λ (ls : List LabLine). LinesEnd c.args.address ls m c.args.page.now c.loop-line.page (Ok tt)) c.lines-lines.ensures.lines
    (leads-to-end c.args.address c.args.net.now c.lines-lines.result.now c.loop-line.net c.loop-line.line-index c.args.page.now c.loop-line.page (omega arith) c.loop-line.invariant.leads m s)
