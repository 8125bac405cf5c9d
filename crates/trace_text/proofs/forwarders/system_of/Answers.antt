use Rattle.std.proofs.Common.{ap, ◌∙◌}
use Rattle.router_desk.specs.Desks.{DeskView}
use Rattle.trace_text.proofs.ForwarderLemmas.{root-system}
use Rattle.trace_text.proofs.forwarders.system_of.Goals as goal

pub returns : goal.returns
returns c = root-system c.args.router.now c.system-system.result (c.system-system.ensures ∙ ap (λ (d : DeskView). d.system) c.desk.ensures) c.system_law.ensures
