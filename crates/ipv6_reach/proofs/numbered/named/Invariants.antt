use Rattle.std.proofs.Common.{take}
use Rattle.ipv6_reach.specs.Numbered.{AreNamed}
use Rattle.ipv6_reach.proofs.numbered.named.Given as goal

abbrev pub invariant-loop-route : goal.invariant-loop-route
invariant-loop-route l = AreNamed l.names (take l.route-index l.routes) l.list.items
