use Rattle.std.proofs.Common.{◌≡◌, drop}
use Rattle.model_router.specs.Numbers.{system_number}
use Rattle.network_lab.specs.LanStates.{router_in as router_among}
use Rattle.network_lab.proofs.lan_states.router_in.Given as goal

abbrev pub invariant-loop-end : goal.invariant-loop-end
invariant-loop-end g l = router_among l.routers (system_number l.system) (drop l.end-index l.ends) ≡ router_among l.routers (system_number l.system) l.ends
