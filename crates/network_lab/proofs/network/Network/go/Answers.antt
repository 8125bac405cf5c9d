use Rattle.std.proofs.Common.{sym, ap, ◌∙◌}
use Rattle.network_lab.specs.LabNets.{LabNet}
use Rattle.network_lab.proofs.RunLemmas.{goes-on, goes-off}
use Rattle.network_lab.proofs.network.Network.go.Goals as goal

pub returns : goal.returns
returns g c = goes-on c.args.event c.args.self.now c.happen.new.self c.happen.result c.requires.line c.requires.running c.happen.ensures (sym (ap (λ (l : LabNet). l.stopped) c.self.view_is) ∙ c.in_default.is)

pub returns-in-Some : goal.returns-in-Some
returns-in-Some g c = goes-off c.args.event c.args.self.now c.happen.new.self c.happen.result c.in-Some.stop c.requires.running c.happen.ensures (sym (ap (λ (l : LabNet). l.stopped) c.self.view_is) ∙ c.in-Some.is)
