use Rattle.std.proofs.Common.{◌≡◌, length, map}
use Rattle.std.specs.List.{AllByRecursion}
use Rattle.model_router.specs.Configs.{Config}
use Rattle.model_router.specs.Elections.{idle}
use Rattle.model_router.specs.Numbers.{system_number}
use Rattle.router_desk.specs.Desks.{desk_circuit}
use Rattle.router_core.specs.Machines.{IsFit}
use Rattle.router_core.proofs.SecondLemmas.{changed}
use Rattle.router_core.proofs.second.idle_all.Given as goal

-- the first so many are idle
abbrev pub invariant-loop-place : goal.invariant-loop-place
invariant-loop-place l = record {
  state : (config : Config) → config.system ≡ system_number l.system → l.circuits.items ≡ changed (idle config) 0 l.place l.initial.circuits.items;
  count : length l.circuits.items ≡ length l.initial.circuits.items;
  same : map desk_circuit l.circuits.items ≡ map desk_circuit l.initial.circuits.items;
  fit : AllByRecursion IsFit l.initial.circuits.items → AllByRecursion IsFit l.circuits.items;
}
