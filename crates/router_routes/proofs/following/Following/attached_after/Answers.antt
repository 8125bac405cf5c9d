use Rattle.std.proofs.Common.{◌∙◌, ap}
use Rattle.router_routes.specs.Following.{FollowingOf}
use Rattle.router_routes.proofs.AttachedLemmas.{attached-stays}
use Rattle.router_routes.proofs.following.Following.attached_after.Goals as goal

pub returns-in-None : goal.returns-in-None
returns-in-None c =
    ap (λ (f : FollowingOf). f.attached) c.self.view_is ∙ c.requires.follows.attached
    ∙ attached-stays c.args.lent.now c.args.view.now c.args.nodes.now c.requires.beside c.requires.store c.in-None.is
