use Rattle.network_lab.proofs.HearLemmas.{heard-by}
use Rattle.network_lab.proofs.hearing.heard_by.Goals as goal

pub returns-clause-heard : goal.returns-clause-heard
returns-clause-heard g c =
    heard-by c.reading_law.ensures c.args.router c.args.circuit c.args.r.now c.args.datagram.now c.desk.result.now c.open-opened.result c.in_ok-octets.octets c.in_ok-range.range c.at_moment-heard.result
    c.requires c.desk.ensures c.in_ok-octets.ensures c.open-opened.ensures.circuit c.open-opened.ensures.seen c.in_ok-range.ensures c.at_moment-heard.ensures
