use Rattle.std.proofs.Common.{List, sym, subst}
use Rattle.std.specs.List.{Contains}
use Rattle.route_table.specs.declared.candidate.Candidate.{Candidate}
use Rattle.route_table.specs.declared.route.Route.{Route}
use Rattle.route_table.specs.Routes.{IsHopTo, AreRoutes}
use Rattle.ipv6_reach.specs.declared.prefix6.Prefix6.{Prefix6}
use Rattle.ipv6_reach.specs.Numbered.{HasName, AreNamed}
use Rattle.ipv6_reach.proofs.NumberLemmas6.{routes_are, have_names}
use Rattle.ipv6_reach.proofs.best6.routes_by.Goals as goal

pub named-requires : goal.named-requires
named-requires c =
    let H = IsHopTo c.args.graph.now c.in-Ok-usable.none in
    let routes : AreRoutes H c.in-Ok.numbered.stands.items c.in-Ok-routes.routes = subst (λ (ss : List Candidate). AreRoutes H ss c.in-Ok-routes.routes) c.as_slice-stands.ensures.value c.in-Ok-routes.ensures in
    let have = have_names c.args.graph.now c.in-Ok-usable.none c.in-Ok.numbered.names.items c.args.candidates.now c.in-Ok.numbered.stands.items c.in-Ok-routes.routes c.in-Ok.ensures.stands routes in
    λ route there. subst (λ (names : List Prefix6). HasName names route) (sym c.as_slice.ensures.value) (have route (subst (λ (rs : List Route). Contains rs route) c.list.ensures.same there))

pub returns-in-Ok-named : goal.returns-in-Ok-named
returns-in-Ok-named c =
    let H = IsHopTo c.args.graph.now c.in-Ok-usable.none in
    let list = c.in-Ok-named.list.items in
    let routes : AreRoutes H c.in-Ok.numbered.stands.items c.in-Ok-routes.routes = subst (λ (ss : List Candidate). AreRoutes H ss c.in-Ok-routes.routes) c.as_slice-stands.ensures.value c.in-Ok-routes.ensures in
    let named : AreNamed c.in-Ok.numbered.names.items c.in-Ok-routes.routes list = subst (λ (names : List Prefix6). AreNamed names c.in-Ok-routes.routes list) c.as_slice.ensures.value (subst (λ (rs : List Route). AreNamed c.as_slice.result.now rs list) c.list.ensures.same c.in-Ok-named.ensures) in
    routes_are c.args.graph.now c.in-Ok-usable.none c.in-Ok.numbered.names.items c.args.candidates.now c.in-Ok.numbered.stands.items c.in-Ok-routes.routes list c.in-Ok.ensures.names c.in-Ok.ensures.stands routes named
