use Rattle.router_desk.proofs.ReadingLemmas.{finds-reads}
use Rattle.router_desk.proofs.laws.reading_law.Goals as goal

pub returns : goal.returns
returns c config circuits place on datagram is = finds-reads config circuits place on datagram is
