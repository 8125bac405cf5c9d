use Rattle.std.proofs.Common.{◌+◌, ◌++◌, ◌∷◌, [], List, take, sym, subst}
use Rattle.std.specs.List.{Contains}
use Rattle.std.proofs.lemmas.List.Elements.{Contains-get_or}
use Rattle.route_table.specs.declared.route.Route.{Route}
use Rattle.ipv6_reach.specs.declared.route6.Route6.{Route6}
use Rattle.ipv6_reach.specs.Numbered.{AreNamed}
use Rattle.ipv6_reach.proofs.NumberLemmas6.{named_more, take_one}
use Rattle.ipv6_reach.proofs.numbered.named.Goals as goal

pub named_one-requires : goal.named_one-requires
named_one-requires c =
    c.requires c.route-item.result (subst (λ (r : Route). Contains c.args.routes.now r) (sym c.route-item.is) (Contains-get_or c.args.routes.now c.loop-route.route-index c.route-item.result c.loop-route-test.true))

pub loop-route-preserved : goal.loop-route-preserved
loop-route-preserved c =
    let names = c.args.names.now in
    let routes = c.args.routes.now in
    let i = c.loop-route.route-index in
    let more = named_more names (take i routes) c.loop-route.list.items c.route-item.result c.in-Ok.one c.loop-route.invariant c.in-Ok.ensures in
    let whole = subst (λ (rs : List Route). AreNamed names rs (c.loop-route.list.items ++ c.in-Ok.one ∷ [])) (sym (take_one routes i c.route-item.result c.loop-route-test.true c.route-item.is)) more in
    subst (λ (ns : List Route6). AreNamed names (take (i + 1) routes) ns) (sym c.in-Ok-push.ensures.items) whole
