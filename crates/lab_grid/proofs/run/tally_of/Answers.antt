use Rattle.std.proofs.Common.{List, [], take, subst, sym}
use Rattle.model_router.specs.Routers.{Router}
use Rattle.route_table.specs.declared.route.Route.{Route}
use Rattle.router_routes.specs.Outlooks.{outlook_of}
use Rattle.router_routes.specs.Candidates.{AreRoutesOf}
use Rattle.lab_grid.specs.GridRuns.{AreTallied}
use Rattle.lab_grid.proofs.RunLemmas.{take-nth, AreTallied-push}
use Rattle.lab_grid.proofs.run.tally_of.Goals as goal

pub loop-router-init : goal.loop-router-init
loop-router-init c = record { lists = []; have = tt; tally_is = c.new-tally.ensures }

pub loop-router-preserved : goal.loop-router-preserved
loop-router-preserved c =
    let routers = c.args.net.now.seen.routers in
    let r = c.router.result.now in
    let are = subst (λ (list : List Route). AreRoutesOf (outlook_of r) list) (sym c.list.ensures.same) c.routes.ensures in
    subst (λ (rs : List Router). AreTallied rs c.add.new.self) (sym (take-nth routers c.loop-router.router r c.router.ensures))
    (AreTallied-push (take c.loop-router.router routers) r c.loop-router.tally c.add.new.self c.list.result.now c.loop-router.invariant are c.add.ensures)
