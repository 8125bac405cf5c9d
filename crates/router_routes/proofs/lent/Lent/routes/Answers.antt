use Rattle.std.proofs.Common.{sym, subst}
use Rattle.isis_base.specs.declared.level.Level.TheVariants as level
use Rattle.router_routes.specs.Outlooks.{Outlook}
use Rattle.router_routes.specs.Following.{IsLevel}
use Rattle.router_routes.proofs.CandidateLemmas.{level-one, level-two}
use Rattle.router_routes.proofs.lent.Lent.routes.Goals as goal

pub all_reached-requires-clause-one : goal.all_reached-requires-clause-one
all_reached-requires-clause-one c =
    subst (λ (o : Outlook). IsLevel o level.One c.in_ok-one.one) (sym c.as_lent-view.ensures.same)
    (level-one c.args.self.now c.in_ok-one.one c.own_node-root.result c.has_level.result c.has_level.ensures c.own_node-root.ensures c.in_ok-one.ensures.root c.in_ok-one.ensures.graph)

pub all_reached-requires-clause-two : goal.all_reached-requires-clause-two
all_reached-requires-clause-two c =
    subst (λ (o : Outlook). IsLevel o level.Two c.in_ok-two.two) (sym c.as_lent-view.ensures.same)
    (level-two c.args.self.now c.in_ok-two.two c.own_node-root.result c.has_level-2.result c.has_level-2.ensures c.own_node-root.ensures c.in_ok-two.ensures.root c.in_ok-two.ensures.graph)

pub tables_of-requires-clause-one : goal.tables_of-requires-clause-one
tables_of-requires-clause-one c =
    subst (λ (o : Outlook). IsLevel o level.One c.in_ok-one.one) (sym c.as_lent-view.ensures.same)
    (level-one c.args.self.now c.in_ok-one.one c.own_node-root.result c.has_level.result c.has_level.ensures c.own_node-root.ensures c.in_ok-one.ensures.root c.in_ok-one.ensures.graph)

pub tables_of-requires-clause-two : goal.tables_of-requires-clause-two
tables_of-requires-clause-two c =
    subst (λ (o : Outlook). IsLevel o level.Two c.in_ok-two.two) (sym c.as_lent-view.ensures.same)
    (level-two c.args.self.now c.in_ok-two.two c.own_node-root.result c.has_level-2.result c.has_level-2.ensures c.own_node-root.ensures c.in_ok-two.ensures.root c.in_ok-two.ensures.graph)
