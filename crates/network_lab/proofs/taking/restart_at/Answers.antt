use Rattle.std.proofs.Common.{◌≡◌, ◌+◌, IfSome, ℕ, List, ap, sym, subst, ◌∙◌}
use Rattle.model_router.specs.Places.{with_nth}
use Rattle.model_network.specs.Networks.{restarted}
use Rattle.model_router.specs.Places.{nth}
use Rattle.model_router.specs.Routers.{Router}
use Rattle.network_lab.specs.LabInside.{shape_of, shapes_of}
use Rattle.network_lab.proofs.PlaceLemmas.{nth-get}
use Rattle.network_lab.proofs.StepLemmas.{counts-with, start-kept, restart-state}
use Rattle.network_lab.proofs.taking.restart_at.Goals as goal

pub returns-clause-shapes : goal.returns-clause-shapes
returns-clause-shapes g c =
    ap shapes_of c.put_at.ensures
    ∙ counts-with shape_of c.args.routers.now.items c.args.router c.index-old.result.now c.in_ok-fresh.fresh
    (nth-get c.args.routers.now.items c.args.router c.index-old.result.now c.requires.there c.index-old.ensures) (start-kept c.index-old.result.now c.in_ok-fresh.fresh _ c.in_ok-fresh.ensures.start)

pub returns-clause-state : goal.returns-clause-state
returns-clause-state g c =
    subst (λ (rs : List Router). IfSome (nth c.args.routers.now.items c.args.router) (λ r. rs ≡ with_nth c.args.routers.now.items c.args.router (restarted r))) (sym c.put_at.ensures)
    (restart-state c.args.routers.now.items c.args.router c.index-old.result.now c.in_ok-fresh.fresh _ c.requires.there c.index-old.ensures c.in_ok-fresh.ensures.start (ap (λ (n : ℕ). n + 1) c.boot.ensures))
