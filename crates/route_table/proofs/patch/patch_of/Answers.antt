use Rattle.std.proofs.Common.{refl}
use Rattle.route_table.specs.Order.{IsListedHop}
use Rattle.route_table.proofs.FirstLemmas.{cut-at-first, patch-without, patch-with}
use Rattle.route_table.proofs.patch.patch_of.Goals as goal

pub route_at-requires-clause-cut : goal.route_at-requires-clause-cut
route_at-requires-clause-cut c = cut-at-first c.args.sorted.now _ c.first_for-first.result c.first_for-first.ensures (c.if-not-is_for.ensures.same refl)

pub returns-then-not-is_for : goal.returns-then-not-is_for
returns-then-not-is_for c =
    patch-without (IsListedHop c.args.one.now c.args.two.now) c.args.sorted.now c.args.prefix c.first_for-first.result c.requires c.first_for-first.ensures (λ inside d. c.if-not-is_for.ensures.other refl inside d)

pub returns-in-Ok : goal.returns-in-Ok
returns-in-Ok c =
    patch-with (IsListedHop c.args.one.now c.args.two.now) c.args.sorted.now c.args.prefix c.first_for-first.result c.in-Ok.route c.in-Ok.ensures.route c.in-Ok.ensures.prefix (c.if-not-is_for.ensures.same refl)
