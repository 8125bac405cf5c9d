use Rattle.std.proofs.Common.{Err, refl, sym, ap, ◌∙◌, length-take-le}
use Rattle.router_desk.specs.declared.cause.DropCause.{DropCause}
use Rattle.isis_pdu.specs.Views.{pdu_view}
use Rattle.router_desk.proofs.OpenLemmas.{frame-refused, pdu-refused, test-refused, seen-here, lies-here}
use Rattle.router_desk.proofs.desk.Desk.find.Goals as goal

pub returns-in-Err-clause-seen : goal.returns-in-Err-clause-seen
returns-in-Err-clause-seen c =
    ap (λ (why : DropCause). Err why) c.frame_cause.ensures ∙ frame-refused c.args.self.now c.args.on.now c.args.datagram.now c.in-Err.fault c.in-Err.ensures.value

pub returns-in-Err-decode-clause-seen : goal.returns-in-Err-decode-clause-seen
returns-in-Err-decode-clause-seen c =
    pdu-refused c.args.self.now c.args.on.now c.args.datagram.now c.in-Ok.parts.0 c.in-Ok.parts.1 c.in-Ok.parts.2.now c.in-Err-decode.fault c.in-Ok.ensures.value c.in-Err-decode.ensures.value

pub slice_bounds-first_failing-end : goal.slice_bounds-first_failing-end
slice_bounds-first_failing-end c =
    let begins = (c.in-Ok-decode.ensures.ok (pdu_view c.in-Ok-decode.found.0) c.in-Ok-decode.found.1).0 refl in
    sym (length-take-le c.in-Ok-decode.found.1 c.in-Ok.parts.2.now begins.1)

pub first_failing-requires : goal.first_failing-requires
first_failing-requires c =
    let begins = (c.in-Ok-decode.ensures.ok (pdu_view c.in-Ok-decode.found.0) c.in-Ok-decode.found.1).0 refl in
    record { framed = c.framed_law.ensures c.in-Ok.parts.2.now (pdu_view c.in-Ok-decode.found.0) c.in-Ok-decode.found.1 begins }

pub returns-in-Some-clause-seen : goal.returns-in-Some-clause-seen
returns-in-Some-clause-seen c =
    test-refused c.args.self.now c.args.on.now c.args.datagram.now c.in-Ok.parts.0 c.in-Ok.parts.1 c.in-Ok.parts.2.now (pdu_view c.in-Ok-decode.found.0) c.in-Ok-decode.found.1 c.in-Some.cause
    c.in-Ok.ensures.value c.in-Ok-decode.ensures.value c.in-Some.ensures

pub returns-in-None-clause-seen : goal.returns-in-None-clause-seen
returns-in-None-clause-seen c =
    let begins = (c.in-Ok-decode.ensures.ok (pdu_view c.in-Ok-decode.found.0) c.in-Ok-decode.found.1).0 refl in
    seen-here c.args.self.now c.args.on.now c.args.datagram.now c.in-Ok.parts.0 c.in-Ok.parts.1 c.in-Ok.parts.2.now (pdu_view c.in-Ok-decode.found.0) c.in-Ok-decode.found.1 c.of-header.result
    c.in-Ok.ensures.value c.in-Ok-decode.ensures.value begins c.in-None.ensures c.of-header.ensures

pub returns-in-None-clause-lies : goal.returns-in-None-clause-lies
returns-in-None-clause-lies c =
    let begins = (c.in-Ok-decode.ensures.ok (pdu_view c.in-Ok-decode.found.0) c.in-Ok-decode.found.1).0 refl in
    lies-here c.args.datagram.now c.in-Ok.parts.0 c.in-Ok.parts.1 c.in-Ok.parts.2.now (pdu_view c.in-Ok-decode.found.0) c.in-Ok-decode.found.1 c.of-header.result
    c.in-Ok.ensures.value begins c.of-header.ensures
