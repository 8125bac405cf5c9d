use Rattle.std.proofs.Common.{◌∙◌, ℕ, List, subst}
use Rattle.lab_grid.specs.GridRuns.{text_end, Sums}
use Rattle.lab_grid.proofs.RefusalLemmas.{grid-sums}
use Rattle.lab_grid.proofs.run.run_grid.Goals as goal

pub returns-clause-summary : goal.returns-clause-summary
returns-clause-summary c =
    grid-sums c.args.size c.run_text.result c.requires.some c.requires.few
    (subst (λ (text : List ℕ). Sums c.args.size (text_end text) c.run_text.result) (c.as_slice.ensures ∙ c.in-Ok.ensures) c.run_text.ensures.summary)
