use Rattle.std.proofs.Common.{arith}
use Rattle.isis_tlv.specs.TlvViews.{one_view}
use Rattle.router_desk.proofs.ValueLemmas.{faulty-within}
use Rattle.router_desk.proofs.values.value_place.Goals as goal

pub overflow_add-result : goal.overflow_add-result
overflow_add-result c =
    let within = faulty-within c.args.kind c.args.tlvs.now (one_view c.in-Some.tlv) c.in-Some.ensures in
    omega (arith, within)

pub overflow_add-result-2 : goal.overflow_add-result-2
overflow_add-result-2 c =
    let within = faulty-within c.args.kind c.args.tlvs.now (one_view c.in-Some.tlv) c.in-Some.ensures in
    omega (arith, within)

pub overflow_add-result-3 : goal.overflow_add-result-3
overflow_add-result-3 c =
    let within = faulty-within c.args.kind c.args.tlvs.now (one_view c.in-Some.tlv) c.in-Some.ensures in
    omega (arith, within, c.in-Some-value_fault.ensures.within)
