use Rattle.std.proofs.Common.{◌∙◌, ap, sym, refl, subst, map}
use Rattle.model_router.specs.Sorted.{RisesFrom}
use Rattle.router_wanted.specs.Views.{prefix_pair}
use Rattle.isis_base.specs.Prefixes.{prefix_number}
use Rattle.router_core.proofs.PrefixLemmas.{put-same, put-new, put-up}
use Rattle.router_core.proofs.prefix_list.put_at.Goals as goal

-- src/prefix_list.rt
pub returns-in-Ok-clause-ok : goal.returns-in-Ok-clause-ok
returns-in-Ok-clause-ok c =
    put-same c.args.list.now.items (prefix_number c.args.prefix) c.in-Ok.at (c.args.prefix, c.args.metric) refl (rw c.in-Ok.is at (rw c.deref.ensures.value at c.place_of.ensures.at))

-- src/prefix_list.rt
pub returns-in-Ok-clause-rises : goal.returns-in-Ok-clause-rises
returns-in-Ok-clause-rises c =
    subst (RisesFrom 0) (sym (returns-in-Ok-clause-ok c)) (put-up (map prefix_pair c.args.list.now.items) (prefix_number c.args.prefix) c.args.metric c.requires)

-- src/prefix_list.rt
pub returns-in-Ok-insert-clause-ok : goal.returns-in-Ok-insert-clause-ok
returns-in-Ok-insert-clause-ok c =
    ap (map prefix_pair) (rw c.in-Ok-insert.is at c.insert.ensures.items) ∙ put-new c.args.list.now.items (prefix_number c.args.prefix) c.in-Err.at (c.args.prefix, c.args.metric) refl (rw c.in-Err.is at (rw c.deref.ensures.value at c.place_of.ensures.at))

-- src/prefix_list.rt
pub returns-in-Ok-insert-clause-rises : goal.returns-in-Ok-insert-clause-rises
returns-in-Ok-insert-clause-rises c =
    subst (RisesFrom 0) (sym (returns-in-Ok-insert-clause-ok c)) (put-up (map prefix_pair c.args.list.now.items) (prefix_number c.args.prefix) c.args.metric c.requires)
