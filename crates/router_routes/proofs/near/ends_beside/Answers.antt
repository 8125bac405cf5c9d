use Rattle.std.proofs.Common.{sym, subst}
use Rattle.std.proofs.lemmas.Result.{IfOk-weaker}
use Rattle.router_routes.specs.Near.{AreEnds}
use Rattle.router_routes.proofs.NearLemmas.{ends-are}
use Rattle.router_routes.proofs.near.ends_beside.Goals as goal

-- src/near.rt
pub returns : goal.returns
returns c =
    IfOk-weaker c.once_each.result _ _ (λ ends e.
    subst (AreEnds c.args.node c.args.rows.now) (sym e)
    (ends-are c.args.node c.args.rows.now c.in_ok-other_ends.field-0.items c.in_order-ends.result.items c.as_slice.result.now c.in_ok-other_ends.ensures c.in_order-ends.ensures.moved c.in_order-ends.ensures.sorted c.as_slice.ensures.value)) c.once_each.ensures
