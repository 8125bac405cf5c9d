use Rattle.trace_text.proofs.HandingLemmas.{one-list, looks-are}
use Rattle.trace_text.proofs.laws.forwarders_laws.Goals as goal

pub returns : goal.returns
returns c = record { one = one-list c.routes_laws.ensures.routes; looks = looks-are }
