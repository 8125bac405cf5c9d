use Rattle.std.proofs.Common.{List, None, sym, subst}
use Rattle.route_table.specs.declared.route.Route.{Route}
use Rattle.route_table.specs.Putting.{IsHeld, IsPutIn}
use Rattle.route_table.proofs.PutLemmas.{remove-from}
use Rattle.route_table.proofs.putting.take_out.Goals as goal

pub returns-then-is_held-clause-put : goal.returns-then-is_held-clause-put
returns-then-is_held-clause-put c =
    let held = subst (λ (list : List Route). IsHeld list c.args.wanted c.args.place) c.as_slice.ensures.value c.if-is_held.ensures in
    subst (λ (list : List Route). IsPutIn c.args.routes.now.items c.args.wanted None list) (sym c.remove.ensures.items)
    (remove-from c.args.routes.now.items c.args.wanted c.args.place c.requires.old c.requires.at held.0 held.1)
