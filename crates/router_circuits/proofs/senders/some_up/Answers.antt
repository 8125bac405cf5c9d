use Rattle.std.proofs.Common.{◌∙◌, ap, not}
use Rattle.router_circuits.proofs.ElectLemmas.{some-up}
use Rattle.router_circuits.proofs.senders.some_up.Goals as goal

pub returns : goal.returns
returns c heard e = ap not c.is_empty.ensures ∙ some-up c.args.up.now heard e
