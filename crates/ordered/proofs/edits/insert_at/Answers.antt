use Rattle.std.proofs.Common.{◌∙◌, ap, sym, refl, subst, zero-le}
use Rattle.std.specs.List.{insert}
use Rattle.model_router.specs.Sorted.{RisesFrom}
use Rattle.ordered.specs.Keyed.{keyed}
use Rattle.ordered.proofs.MapLemmas.{put-place, put-gap, put-rises, find-gap}
use Rattle.ordered.proofs.edits.insert_at.Goals as goal

pub returns-in-Ok-clause-ok : goal.returns-in-Ok-clause-ok
returns-in-Ok-clause-ok g c =
    sym (put-place g.T.Keyed.key c.args.list.now.items _ c.in-Ok.at c.args.item refl (rw c.in-Ok.is at c.requires.place))

pub returns-in-Ok-clause-rises : goal.returns-in-Ok-clause-rises
returns-in-Ok-clause-rises g c =
    subst (RisesFrom 0) (sym (returns-in-Ok-clause-ok g c)) (put-rises (keyed g.T.Keyed.key c.args.list.now.items) 0 (g.T.Keyed.key c.args.item) c.args.item zero-le c.requires.rises)

pub returns-in-Ok-reserve-clause-ok : goal.returns-in-Ok-reserve-clause-ok
returns-in-Ok-reserve-clause-ok g c =
    ap (keyed g.T.Keyed.key) (rw c.unwrap.ensures at c.insert.ensures.items) ∙ ap (λ xs. keyed g.T.Keyed.key (insert xs c.in-Err.at c.args.item)) c.reserve.ensures.items ∙ sym (put-gap g.T.Keyed.key c.args.list.now.items _ c.in-Err.at c.args.item refl (rw c.in-Err.is at c.requires.place))

pub returns-in-Ok-reserve-clause-rises : goal.returns-in-Ok-reserve-clause-rises
returns-in-Ok-reserve-clause-rises g c =
    subst (RisesFrom 0) (sym (returns-in-Ok-reserve-clause-ok g c)) (put-rises (keyed g.T.Keyed.key c.args.list.now.items) 0 (g.T.Keyed.key c.args.item) c.args.item zero-le c.requires.rises)

pub returns-in-Err-reserve-clause-held : goal.returns-in-Err-reserve-clause-held
returns-in-Err-reserve-clause-held g c some =
    rw (find-gap g.T.Keyed.key c.args.list.now.items (g.T.Keyed.key c.args.item) c.in-Err.at (rw c.in-Err.is at c.requires.place)) at some
