use Rattle.std.proofs.Common.{List, ℕ, ◌+◌, ◌++◌, map, drop, sym, ap, ◌∙◌, append_assoc}
use Rattle.model_router.specs.Routers.{Contents}
use Rattle.model_router.specs.Wanted.{pseudonode_lsps}
use Rattle.router_wanted.specs.Lent.{router_of}
use Rattle.router_wanted.specs.Views.{wanted_of}
use Rattle.router_wanted.proofs.WantedLemmas.{pseudonodes-step}
use Rattle.router_wanted.proofs.building.add_pseudonodes.Goals as goal

pub loop-place-preserved : goal.loop-place-preserved
loop-place-preserved c all =
    let r = router_of c.args.base.now all in
    let loop = c.loop-place in
    let old = map wanted_of loop.list.items in
    let rest = pseudonode_lsps r c.args.level (loop.place + 1) (drop (loop.place + 1) c.args.circuits.now) in
    let step = pseudonodes-step r c.args.level loop.place c.args.circuits.now c.index-circuits-place.result c.loop-place-test.true c.index-circuits-place.is in
    ap (λ (m : List (ℕ × Contents)). m ++ rest) (c.in-Ok.ensures all)
    ∙ append_assoc old _ rest
    ∙ ap (λ (m : List (ℕ × Contents)). old ++ m) (sym step)
    ∙ loop.invariant all
