use Rattle.std.proofs.Common.{◌∙◌, ap, sym, subst, map}
use Rattle.model_router.specs.Sorted.{RisesFrom}
use Rattle.router_wanted.specs.Views.{prefix_pair}
use Rattle.isis_base.specs.Prefixes.{prefix_number}
use Rattle.router_core.proofs.PrefixLemmas.{erase-here, erase-none, erase-up}
use Rattle.router_core.proofs.prefix_list.take_out.Goals as goal

-- src/prefix_list.rt
pub returns-in-Ok-clause-items : goal.returns-in-Ok-clause-items
returns-in-Ok-clause-items c =
    ap (map prefix_pair) c.remove.ensures.items ∙ erase-here c.args.list.now.items (prefix_number c.args.prefix) c.in-Ok.at (rw c.in-Ok.is at (rw c.deref.ensures.value at c.place_of.ensures.at))

-- src/prefix_list.rt
pub returns-in-Ok-clause-rises : goal.returns-in-Ok-clause-rises
returns-in-Ok-clause-rises c =
    subst (RisesFrom 0) (sym (returns-in-Ok-clause-items c)) (erase-up (map prefix_pair c.args.list.now.items) (prefix_number c.args.prefix) c.requires)

-- src/prefix_list.rt
pub returns-in_default-clause-items : goal.returns-in_default-clause-items
returns-in_default-clause-items c =
    erase-none c.args.list.now.items (prefix_number c.args.prefix) c.in_default.field-0 (rw c.in_default.is at (rw c.deref.ensures.value at c.place_of.ensures.at))
