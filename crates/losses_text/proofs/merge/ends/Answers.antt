use Rattle.std.proofs.Common.{◌∙◌, List, ℕ, sym, ap}
use Rattle.std.specs.Prelude.{Option}
use Rattle.std.specs.Borrow.{Bor}
use Rattle.losses_text.specs.Merging.{is_end}
use Rattle.line_cuts.specs.Cuts.{parts_behind}
use Rattle.line_cuts.proofs.CutLemmas.{never-empty}
use Rattle.losses_text.proofs.MergeLemmas.{not-end}
use Rattle.losses_text.proofs.merge.ends.Goals as goal

pub returns-in-Some : goal.returns-in-Some
returns-in-Some c =
    let line = c.args.line.now in
    sym (ap (λ (o : Option (Bor (List ℕ))). is_end line (parts_behind 10 o)) c.in-Some.is ∙ not-end line _ (never-empty 10 c.in-Some.field-0.now))
