use Rattle.std.proofs.Common.{subst}
use Rattle.std.specs.List.{AllByRecursion}
use Rattle.line_cuts.specs.Cuts.{parts_behind}
use Rattle.weave_text.specs.Lines.{Left, IsUnbroken}
use Rattle.weave_text.proofs.CutLemmas.{parts-unbroken, whole-unbroken}
use Rattle.weave_text.proofs.input_lines.Lines.facts.Goals as goal

pub returns : goal.returns
returns c =
    subst (λ (l : Left). AllByRecursion IsUnbroken l.lines) c.self.view_is
    (whole-unbroken (parts_behind 10 c.self.inside.left) (parts-unbroken c.self.inside.left))
