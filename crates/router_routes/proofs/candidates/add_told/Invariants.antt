use Rattle.std.proofs.Common.{◌≡◌, ◌++◌, drop}
use Rattle.std.specs.List.{flat_map}
use Rattle.router_routes.specs.Moved.{told_of}
use Rattle.router_routes.specs.Candidates.{LeaveRoom, system_ways}
use Rattle.router_routes.proofs.candidates.add_told.Given as goal

-- the candidates so far, and those of what is left, whose costs leave room
abbrev pub invariant-loop-reached : goal.invariant-loop-reached
invariant-loop-reached l =
    let tells = system_ways l.level (told_of l.told) in
    record {
      list : l.list.items ++ flat_map tells (drop l.reached-index l.systems) ≡ l.fn.list.items ++ flat_map tells l.systems;
      room : LeaveRoom (drop l.reached-index l.systems);
    }
