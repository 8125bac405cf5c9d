use Rattle.std.proofs.Common.{sym, ◌∙◌}
use Rattle.lab_losses.proofs.ScriptLemmas.{last-run, other-line}
use Rattle.lab_losses.proofs.write.text_of.Goals as goal

pub returns-in-Some-run_of : goal.returns-in-Some-run_of
returns-in-Some-run_of c =
    c.text_behind.ensures c.args.script
    (last-run c.args.script c.in-Lab.script c.pop_line.new.self c.in-Some.line c.in-Some-run_of.asked c.in-Lab.is c.in-Some.ensures (sym c.run_of.ensures ∙ c.in-Some-run_of.is))

pub returns : goal.returns
returns c = other-line c.args.script c.in-Lab.script c.pop_line.new.self c.in-Some.line c.in-Lab.is c.in-Some.ensures (sym c.run_of.ensures ∙ c.in-None.is)
