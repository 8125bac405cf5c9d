use Rattle.router_routes.specs.Moved.{outlook_at}
use Rattle.router_routes.proofs.following.Following.with_reached.Goals as goal

pub returns-in-Ok : goal.returns-in-Ok
returns-in-Ok c = c.coming_of.ensures (outlook_at c.args.view.now) c.args.self.now c.requires.levels.right c.requires.reached.right c.in-Ok.ensures
