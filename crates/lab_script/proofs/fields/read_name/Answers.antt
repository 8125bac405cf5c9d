use Rattle.std.proofs.Common.{sym, ◌∙◌}
use Rattle.lab_script.proofs.NameTexts.{name-text}
use Rattle.lab_script.proofs.fields.read_name.Goals as goal

pub returns-in-Err : goal.returns-in-Err
returns-in-Err c = absurd (c.in-Err.ensures.cases.0 (name-text c.args.word.now (sym c.reads_name.ensures ∙ c.if-not-reads_name.false)))
