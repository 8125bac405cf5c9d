use Rattle.std.proofs.Common.{◌∙◌, List, ℕ, sym, ap}
use Rattle.std.specs.Prelude.{Option}
use Rattle.std.specs.Borrow.{Bor}
use Rattle.journal_text.specs.Journals.{is_end}
use Rattle.line_cuts.specs.Cuts.{parts_behind}
use Rattle.weave_text.proofs.CutLemmas.{not-empty, not-end}
use Rattle.weave_text.proofs.input_lines.ends.Goals as goal

pub returns-in-Some : goal.returns-in-Some
returns-in-Some c =
    let line = c.args.line.now in
    sym (ap (λ (o : Option (Bor (List ℕ))). is_end line (parts_behind 10 o)) c.in-Some.is ∙ not-end line _ (not-empty c.in-Some.field-0.now))
