use Rattle.std.proofs.Common.{◌≡◌, ◌++◌, ◌-◌}
use Rattle.model_network.specs.Networks.{Network}
use Rattle.model_network.specs.RunLines.{links_from}
use Rattle.network_lab.specs.LabNets.{StandsFor}
use Rattle.lab_losses.proofs.replay.ReplayLab.links.Given as goal

abbrev pub invariant-loop-place : goal.invariant-loop-place
invariant-loop-place l = (net : Network) → StandsFor net l.self.net
    → l.links.items ++ links_from net l.router l.place (l.place-end - l.place) ≡ links_from net l.router 0 l.place-end
