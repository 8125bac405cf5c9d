use Rattle.std.proofs.Common.{length}
use Rattle.isis_base.specs.declared.level.Level.{Level}
use Rattle.model_router.specs.Routers.{Router}
use Rattle.router_core.specs.Asides.{IsShown}
use Rattle.router_core.proofs.SightLemmas.{Ends}
use Rattle.router_core.proofs.renewing.ended_told.Given as goal

-- what is told is what the entries so far bring
abbrev pub invariant-loop-id : goal.invariant-loop-id
invariant-loop-id l = (r : Router) (level : Level) → IsShown r level l.fn.store.entries → Ends r level l.fn.store.entries l.left l.movers.nodes.items l.movers.aside.entries

abbrev pub decreases-loop-id : goal.decreases-loop-id
decreases-loop-id l = length l.left
