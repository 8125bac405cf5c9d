use Rattle.std.proofs.Common.{◌∙◌}
use Rattle.router_circuits.proofs.ChangeLemmas.{over-seen}
use Rattle.router_circuits.proofs.adjacencies.lan_ends.Goals as goal

pub returns : goal.returns
returns c = c.some_end.ensures ∙ over-seen c.heard.result.now c.args.lan.now c.heard.ensures.all
