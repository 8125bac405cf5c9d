use Rattle.std.proofs.Common.{List, Bor, subst}
use Rattle.route_table.specs.declared.route.Route.{Route}
use Rattle.route_table.specs.Routes.{AreRising}
use Rattle.packet_trace.proofs.LookupLemmas.{found}
use Rattle.packet_trace.proofs.packets.looked_up.Goals as goal

pub returns : goal.returns
returns c =
    let rising = subst (λ (routes : List Route). AreRising routes) c.list-rising.ensures.same c.list-rising.ensures.rising in
    found c.lookup.result (λ (route : Bor Route). route.now) c.routes_laws.ensures.longest c.args.forwarder.now.routes c.args.address rising c.lookup.ensures
