use Rattle.std.proofs.Common.{◌∙◌, ap, subst}
use Rattle.router_routes.specs.Following.{FollowingOf}
use Rattle.router_routes.specs.Coming.{costs_after}
use Rattle.router_routes.specs.Moved.{outlook_at}
use Rattle.router_routes.specs.Outlooks.{outlook_in}
use Rattle.router_routes.proofs.SameLemmas.{AreCostsOf, costs-of}
use Rattle.router_routes.proofs.PatchLemmas.{still-of}
use Rattle.router_routes.proofs.following.Following.still_law.Goals as goal

pub returns : goal.returns
returns c =
    let f = c.args.self.now in
    let one = ap (λ (g : FollowingOf). g.levels.one) c.self.view_is in
    let two = ap (λ (g : FollowingOf). g.levels.two) c.self.view_is in
    let levels = c.args.levels.now in
    still-of (outlook_in c.args.lent.now) (outlook_at c.args.view.now) f c.args.nodes.now levels c.lent_ids.ensures c.view_ids.ensures c.requires.follows c.requires.levels
    (subst AreCostsOf one (costs-of c.self.inside.one c.distances-old_one.result.now c.distances-old_one.ensures.same c.distances-old_one.ensures.distances))
    (subst AreCostsOf two (costs-of c.self.inside.two c.distances-old_two.result.now c.distances-old_two.ensures.same c.distances-old_two.ensures.distances))
    (subst AreCostsOf (c.newest_costs-one.ensures ∙ ap (costs_after levels.one) one) (costs-of c.newest_costs-one.result.now c.distances-new_one.result.now c.distances-new_one.ensures.same c.distances-new_one.ensures.distances))
    (subst AreCostsOf (c.newest_costs-two.ensures ∙ ap (costs_after levels.two) two) (costs-of c.newest_costs-two.result.now c.distances-new_two.result.now c.distances-new_two.ensures.same c.distances-new_two.ensures.distances))
