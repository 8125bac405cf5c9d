use Rattle.std.proofs.Common.{arith}
use Rattle.isis_tlv.specs.TlvViews.{one_view}
use Rattle.hmac_auth.proofs.PlaceLemmas.{auth-lies}
use Rattle.hmac_auth.proofs.place.digest_place.Goals as goal

pub overflow_add-result : goal.overflow_add-result
overflow_add-result c =
    let lies = auth-lies c.args.pdu.now c.args.header (one_view c.in-Some.tlv) c.requires c.in-Some.ensures in
    omega (arith, lies.within)

pub returns-clause-behind : goal.returns-clause-behind
returns-clause-behind c =
    let lies = auth-lies c.args.pdu.now c.args.header (one_view c.in-Some.tlv) c.requires c.in-Some.ensures in
    omega (arith, lies.behind)

pub returns-clause-within : goal.returns-clause-within
returns-clause-within c =
    let lies = auth-lies c.args.pdu.now c.args.header (one_view c.in-Some.tlv) c.requires c.in-Some.ensures in
    omega (arith, lies.within)
