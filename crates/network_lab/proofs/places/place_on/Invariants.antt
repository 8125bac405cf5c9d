use Rattle.std.proofs.Common.{◌≡◌, drop}
use Rattle.model_network.specs.Networks.{place_on as place_among}
use Rattle.network_lab.proofs.places.place_on.Given as goal

abbrev pub invariant-loop-end : goal.invariant-loop-end
invariant-loop-end l = place_among (drop l.end-index l.ends) l.router ≡ place_among l.ends l.router
