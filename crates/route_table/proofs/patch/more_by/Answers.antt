use Rattle.std.proofs.Common.{◌∙◌, Option, sym, ap}
use Rattle.route_table.specs.declared.route.Route.{Route}
use Rattle.route_table.specs.Ranks.{prefix_number}
use Rattle.route_table.specs.Patches.{more_by}
use Rattle.route_table.proofs.RoomLemmas.{more-free, more-held}
use Rattle.route_table.proofs.patch.more_by.Goals as goal

pub returns-then-is_held-clause-more : goal.returns-then-is_held-clause-more
returns-then-is_held-clause-more c =
    let n = prefix_number c.args.patch.now.prefix in
    sym (ap (λ (o : Option Route). more_by c.args.routes.now n o) c.in-Some.is ∙ more-held c.args.routes.now n _ c.in-Some.field-0 (rw c.prefix_number-wanted.ensures at c.if-is_held.ensures))

pub returns-else-is_held-clause-more : goal.returns-else-is_held-clause-more
returns-else-is_held-clause-more c =
    let n = prefix_number c.args.patch.now.prefix in
    sym (ap (λ (o : Option Route). more_by c.args.routes.now n o) c.in-Some.is ∙ more-free c.args.routes.now n c.in-Some.field-0 (rw c.prefix_number-wanted.ensures at c.if-is_held.ensures))
