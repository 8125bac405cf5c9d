use Rattle.std.proofs.Common.{◌∙◌, ap, sym}
use Rattle.ordered.specs.Keyed.{keyed}
use Rattle.ordered.proofs.MapLemmas.{erase-place, erase-gap}
use Rattle.ordered.proofs.edits.take_at.Goals as goal

pub returns-in-Ok-clause-items : goal.returns-in-Ok-clause-items
returns-in-Ok-clause-items g c =
    ap (keyed g.T.Keyed.key) c.remove.ensures.items ∙ sym (erase-place g.T.Keyed.key c.args.list.now.items c.args.number c.in-Ok.at (rw c.in-Ok.is at c.requires))

pub returns-in_default-clause-items : goal.returns-in_default-clause-items
returns-in_default-clause-items g c =
    sym (erase-gap g.T.Keyed.key c.args.list.now.items c.args.number c.in_default.field-0 (rw c.in_default.is at c.requires))
