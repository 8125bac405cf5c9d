use Rattle.std.proofs.Common.{◌≡◌, length, map}
use Rattle.adjacency.specs.declared.neighbour.Neighbour.{Neighbour}
use Rattle.model_router.specs.Numbers.{snpa_id}
use Rattle.router_sending.specs.Sends.{snpas_of}
use Rattle.router_sending.proofs.ids.snpas_law.Given as goal

-- what holds of those left holds of all
abbrev pub invariant-loop-left : goal.invariant-loop-left
invariant-loop-left l =
    map snpa_id (snpas_of l.left) ≡ map (λ (n : Neighbour). n.snpa) l.left
    → map snpa_id (snpas_of l.heard) ≡ map (λ (n : Neighbour). n.snpa) l.heard

abbrev pub decreases-loop-left : goal.decreases-loop-left
decreases-loop-left l = length l.left
