use Rattle.std.proofs.Common.{sym, subst}
use Rattle.isis_base.specs.declared.level.Level.TheVariants as level
use Rattle.router_routes.specs.Outlooks.{Outlook}
use Rattle.router_routes.specs.Following.{IsLevel}
use Rattle.router_routes.proofs.CandidateLemmas.{level-one, level-two}
use Rattle.router_routes.proofs.following.Following.new.Goals as goal

pub assembled-requires-clause-one : goal.assembled-requires-clause-one
assembled-requires-clause-one c =
    subst (λ (o : Outlook). IsLevel o level.One c.in_ok-one.one) (sym c.as_lent.ensures.same)
    (level-one c.args.lent.now c.in_ok-one.one c.own_node-root.result c.has_level.result c.has_level.ensures c.own_node-root.ensures c.in_ok-one.ensures.root c.in_ok-one.ensures.graph)

pub assembled-requires-clause-two : goal.assembled-requires-clause-two
assembled-requires-clause-two c =
    subst (λ (o : Outlook). IsLevel o level.Two c.in_ok-two.two) (sym c.as_lent.ensures.same)
    (level-two c.args.lent.now c.in_ok-two.two c.own_node-root.result c.has_level-2.result c.has_level-2.ensures c.own_node-root.ensures c.in_ok-two.ensures.root c.in_ok-two.ensures.graph)
