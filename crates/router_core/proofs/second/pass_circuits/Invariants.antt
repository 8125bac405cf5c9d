use Rattle.std.proofs.Common.{◌≡◌, ℕ, length, map}
use Rattle.std.specs.List.{AllByRecursion}
use Rattle.model_router.specs.Routers.{Circuit}
use Rattle.router_desk.specs.Desks.{desk_circuit}
use Rattle.router_core.specs.Machines.{IsFit}
use Rattle.router_core.specs.Seconds.{later}
use Rattle.router_core.proofs.SecondLemmas.{changed}
use Rattle.router_core.proofs.second.pass_circuits.Given as goal

-- the first so many had their second
abbrev pub invariant-loop-place : goal.invariant-loop-place
invariant-loop-place l = record {
  state : l.circuits.items ≡ changed (λ (_ : ℕ) (x : Circuit). later x) 0 l.place l.initial.circuits.items;
  count : length l.circuits.items ≡ length l.initial.circuits.items;
  same : map desk_circuit l.circuits.items ≡ map desk_circuit l.initial.circuits.items;
  fit : AllByRecursion IsFit l.initial.circuits.items → AllByRecursion IsFit l.circuits.items;
}
