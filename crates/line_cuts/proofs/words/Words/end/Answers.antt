use Rattle.std.proofs.Common.{◌∙◌, sym, ap}
use Rattle.line_cuts.specs.Cuts.{parts_behind}
use Rattle.line_cuts.proofs.CutLemmas.{never-empty}
use Rattle.line_cuts.proofs.words.Words.end.Goals as goal

pub returns-in-Some : goal.returns-in-Some
returns-in-Some c = λ none. never-empty 32 c.in-Some.field-0.now (sym (ap (parts_behind 32) c.in-Some.is) ∙ c.self.view_is ∙ none)
