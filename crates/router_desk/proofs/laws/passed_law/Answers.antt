use Rattle.router_desk.proofs.PassedLemmas.{passed-at}
use Rattle.router_desk.proofs.laws.passed_law.Goals as goal

pub returns : goal.returns
returns c desk number datagram seen is = passed-at desk number datagram seen is
