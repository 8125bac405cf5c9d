use Rattle.std.proofs.Common.{sym, ◌∙◌}
use Rattle.lab_facts.proofs.CellLemmas.{cells_none}
use Rattle.lab_facts.proofs.cells.CellsIterator.next.Goals as goal

pub returns-in_default-next-clause-steps : goal.returns-in_default-next-clause-steps
returns-in_default-next-clause-steps c =
    (sym c.self.view_is ∙ cells_none c.self.inside.entries c.self.inside.rows c.in_default-next.ensures.steps.0, cells_none c.next.new.self c.next-2.new.self c.in_default-next.ensures.steps.1)
