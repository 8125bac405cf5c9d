use Rattle.std.proofs.Common.{◌≡◌, ◌++◌, List, drop, map}
use Rattle.model_router.specs.Routers.{Circuit}
use Rattle.model_router.specs.Wanted.{pseudonode_lsps}
use Rattle.router_wanted.specs.Lent.{router_of}
use Rattle.router_wanted.specs.Views.{wanted_of}
use Rattle.router_wanted.proofs.building.add_pseudonodes.Given as goal

-- those so far and those that are left are all
abbrev pub invariant-loop-place : goal.invariant-loop-place
invariant-loop-place l = (all : List Circuit) →
    map wanted_of l.list.items ++ pseudonode_lsps (router_of l.base all) l.level l.place (drop l.place l.circuits)
    ≡ map wanted_of l.initial.list.items ++ pseudonode_lsps (router_of l.base all) l.level 0 l.circuits
