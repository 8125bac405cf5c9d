use Rattle.std.proofs.Common.{◌∙◌, map, refl, ap, sym, subst}
use Rattle.isis_base.specs.declared.level.Level.TheVariants as level
use Rattle.isis_tlv.specs.declared.prefix.PrefixItem.{PrefixItem}
use Rattle.router_routes.specs.Outlooks.{Outlook}
use Rattle.router_routes.specs.Following.{IsLevel}
use Rattle.router_routes.specs.Leaks.{item_pair, pair_of}
use Rattle.router_routes.proofs.CandidateLemmas.{level-one, level-two}
use Rattle.router_routes.proofs.ToldLemmas.{map-map}
use Rattle.router_routes.proofs.lent.Lent.leaked_between.Goals as goal

pub all_reached-requires-clause-one : goal.all_reached-requires-clause-one
all_reached-requires-clause-one c =
    subst (λ (o : Outlook). IsLevel o level.One c.in_ok-one.one) (sym c.as_lent.ensures.same)
    (level-one c.args.self.now c.in_ok-one.one c.own_node-root.result c.has_level.result c.has_level.ensures c.own_node-root.ensures c.in_ok-one.ensures.root c.in_ok-one.ensures.graph)

pub all_reached-requires-clause-two : goal.all_reached-requires-clause-two
all_reached-requires-clause-two c =
    subst (λ (o : Outlook). IsLevel o level.Two c.in_ok-two.two) (sym c.as_lent.ensures.same)
    (level-two c.args.self.now c.in_ok-two.two c.own_node-root.result c.has_level-2.result c.has_level-2.ensures c.own_node-root.ensures c.in_ok-two.ensures.root c.in_ok-two.ensures.graph)

pub returns-clause-prefixes : goal.returns-clause-prefixes
returns-clause-prefixes c =
    ap (map pair_of) c.in_ok-prefixes.ensures
    ∙ map-map pair_of (λ (item : PrefixItem). pair_of (item_pair item)) item_pair _ (λ item. refl)
    ∙ ap (map (λ (item : PrefixItem). pair_of (item_pair item))) (c.as_slice.ensures.value ∙ c.in_ok-items.ensures)
    ∙ c.in_ok-routes.ensures c.args.level
