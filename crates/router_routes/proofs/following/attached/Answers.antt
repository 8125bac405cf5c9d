use Rattle.std.proofs.lemmas.Result.{IfOk-weaker}
use Rattle.router_routes.proofs.CandidateLemmas.{attached-one}
use Rattle.router_routes.proofs.SystemLemmas.{attached-same}
use Rattle.router_routes.proofs.following.attached.Goals as goal

pub returns-in-Both : goal.returns-in-Both
returns-in-Both c = IfOk-weaker c.is_attached.result _ _ (λ attached same. attached-same c.args.view.now c.args.twos.now attached c.in-Both.is c.requires.twos same) c.is_attached.ensures

pub returns-in-One : goal.returns-in-One
returns-in-One c = attached-one c.args.view.now c.in-One.is
