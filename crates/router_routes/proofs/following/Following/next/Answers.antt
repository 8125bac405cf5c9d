use Rattle.std.proofs.Common.{◌∙◌, ap, refl, sym}
use Rattle.router_routes.specs.Following.{FollowingOf}
use Rattle.router_routes.specs.Moved.{outlook_at}
use Rattle.router_routes.specs.Outlooks.{outlook_in}
use Rattle.router_routes.proofs.AheadLemmas.{prefixes-stay}
use Rattle.router_routes.proofs.ComingLemmas.{all-stays, levels-stay}
use Rattle.router_routes.proofs.SameLemmas.{stays-following}
use Rattle.router_routes.proofs.following.Following.next.Goals as goal

pub returns-then-all_stays : goal.returns-then-all_stays
returns-then-all_stays c =
    let f = c.args.self.now in
    let p = outlook_at c.args.view.now in
    let is = c.if-all_stays.true in
    let reached = c.in-Ok.ensures.right in
    stays-following (outlook_in c.args.lent.now) p f c.requires.follows c.requires.beside.root c.requires.beside.runs (prefixes-stay c.args.lent.now c.args.told.now c.args.view.now c.requires.viewed c.requires.prefixes) c.requires.one c.requires.two
    (all-stays p f c.in-Ok.reached (c.all_stays.ensures.told is) reached)
    (sym (c.all_stays.ensures.attached is ∙ ap (λ (g : FollowingOf). g.attached) c.self.view_is) ∙ reached.attached)

pub with_reached-requires-clause-levels : goal.with_reached-requires-clause-levels
with_reached-requires-clause-levels c =
    levels-stay (outlook_in c.args.lent.now) (outlook_at c.args.view.now) c.args.self.now c.args.nodes.now _ refl refl c.requires.follows c.nodes_law.ensures c.requires.beside c.requires.one c.requires.two
