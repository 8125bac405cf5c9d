use Rattle.std.proofs.Common.{◌≡◌, ◌++◌, map}
use Rattle.network_lab.specs.LabSteps.{sent_by}
use Rattle.network_lab.specs.Reached.{AreSmall}
use Rattle.network_lab.proofs.taking.post_all.Given as goal

abbrev pub invariant-loop-octets : goal.invariant-loop-octets
invariant-loop-octets l = record {
  whole : l.sent.items ≡ l.initial.sent.items ++ map (sent_by l.sender l.boot l.changes l.link) l.yielded;
  small : AreSmall l.sent.items;
}
