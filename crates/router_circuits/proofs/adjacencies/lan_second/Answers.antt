use Rattle.std.proofs.Common.{◌∙◌, ap}
use Rattle.router_circuits.specs.Hellos.{is_change}
use Rattle.router_circuits.proofs.ChangeLemmas.{lan-second, less-sizes}
use Rattle.router_circuits.proofs.adjacencies.lan_second.Goals as goal

pub returns-clause-over : goal.returns-clause-over
returns-clause-over c = c.is_change.ensures ∙ ap is_change c.second.ensures.change ∙ lan-second c.args.lan.now

pub returns-clause-sized : goal.returns-clause-sized
returns-clause-sized c = λ sized. rw c.second.ensures.less (less-sizes c.args.lan.now sized)
