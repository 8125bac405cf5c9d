use Rattle.std.proofs.Common.{◌+◌, List, Err, drop, length, sym, ap, ◌∙◌, subst, arith}
use Rattle.std.specs.List.{AllByRecursion}
use Rattle.std.proofs.lemmas.List.{drop_more}
use Rattle.model_network.specs.Networks.{Network as ModelNetwork}
use Rattle.lab_script.specs.declared.deeds.LabLine.{LabLine}
use Rattle.lab_script.specs.LabSound.{IsDeed}
use Rattle.lab_text.specs.LabRuns.{play_deed, play_all, ◌>>=◌}
use Rattle.lab_text.specs.Played.{Plays}
use Rattle.lab_text.proofs.LineLemmas.{play_all-at, play_all-end, err-bind}
use Rattle.lab_text.proofs.event_lines.play_lines.Goals as goal

pub returns-in-Err-clause-value : goal.returns-in-Err-clause-value
returns-in-Err-clause-value c = λ m s.
    let lines = c.lines-lines.result.now in
    let told = c.line-item.result in
    let lead = c.loop-line.invariant.leads m s in
    subst (λ x. Plays (Err c.in-Err.fault) c.play_line.new.net x)
    (sym (ap (λ (ls : List LabLine). play_all m ls) (sym c.lines-lines.ensures.lines) ∙ lead.1 ∙ play_all-at lines lead.0 c.loop-line.line-index told c.loop-line-test.true c.line-item.is))
    (err-bind c.in-Err.fault c.play_line.new.net (play_deed lead.0 told.line told.deed) (λ (more : ModelNetwork). play_all more (drop (c.loop-line.line-index + 1) lines)) (c.in-Err.ensures.value lead.0 lead.2))

pub loop-line-preserved : goal.loop-line-preserved
loop-line-preserved c =
    let lines = c.lines-lines.result.now in
    let told = c.line-item.result in
    let i = c.loop-line.line-index in
    record {
      leads = λ m s.
          let lead = c.loop-line.invariant.leads m s in
          let next = c.in-Ok.ensures.value lead.0 lead.2 in
          (next.0, lead.1 ∙ play_all-at lines lead.0 i told c.loop-line-test.true c.line-item.is ∙ ap (λ r. r >>= λ (more : ModelNetwork). play_all more (drop (i + 1) lines)) next.1, next.2);
      goes_on = c.in-Ok.ensures.goes_on;
      laid = record {
        routers_are = c.in-Ok.ensures.routers ∙ c.loop-line.invariant.laid.routers_are;
        links_are = c.in-Ok.ensures.links ∙ c.loop-line.invariant.laid.links_are;
      };
      links = c.in-Ok.ensures.links ∙ c.loop-line.invariant.links;
      routers = c.in-Ok.ensures.routers ∙ c.loop-line.invariant.routers;
      deeds = (subst (λ (ls : List LabLine). AllByRecursion (λ (line : LabLine). IsDeed (length c.args.script.now.routers) c.args.script.now.links line.deed) ls) (drop_more lines i told c.loop-line-test.true) c.loop-line.invariant.deeds).1;
    }

pub returns-clause-value : goal.returns-clause-value
returns-clause-value c = λ m s.
    let lines = c.lines-lines.result.now in
    let lead = c.loop-line.invariant.leads m s in
    (lead.0, ap (λ (ls : List LabLine). play_all m ls) (sym c.lines-lines.ensures.lines) ∙ lead.1 ∙ play_all-end lines lead.0 c.loop-line.line-index (omega arith), lead.2, c.loop-line.invariant.goes_on)
