use Rattle.std.proofs.Common.{sym, subst}
use Rattle.model_router.specs.Sorted.{RisesFrom}
use Rattle.ordered.specs.Keyed.{keyed}
use Rattle.ordered.proofs.MapLemmas.{erase-rises}
use Rattle.ordered.proofs.edits.take_out.Goals as goal

pub take_at-requires : goal.take_at-requires
take_at-requires g c = rw c.deref.ensures.value at c.place_of-place.ensures

pub returns-clause-rises : goal.returns-clause-rises
returns-clause-rises g c =
    subst (RisesFrom 0) (sym c.take_at.ensures.items) (erase-rises (keyed g.T.Keyed.key c.args.list.now.items) 0 c.args.number c.requires)
