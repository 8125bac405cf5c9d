use Rattle.std.proofs.Common.{◌∙◌, ap, sym, Some}
use Rattle.ordered.proofs.MapLemmas.{find-place, find-gap}
use Rattle.ordered.proofs.search.get.Goals as goal

pub returns-in-Ok : goal.returns-in-Ok
returns-in-Ok g c =
    find-place g.T.Keyed.key c.args.list.now _ c.in-Ok.at c.index-list-at.result (rw c.in-Ok.is at c.place_of.ensures) ∙ ap (λ x. Some x) (sym c.index-list-at.is)

pub returns-in-Err : goal.returns-in-Err
returns-in-Err g c = find-gap g.T.Keyed.key c.args.list.now _ c.in-Err.field-0 (rw c.in-Err.is at c.place_of.ensures)
