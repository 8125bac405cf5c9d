use Rattle.std.proofs.Common.{refl, arith}
use Rattle.std.proofs.lemmas.List.{length-take-le}
use Rattle.isis_pdu.specs.Views.{pdu_view}
use Rattle.isis_daemon.proofs.show.lines.add_octets.Goals as goal

pub slice_bounds-add_pdu-end : goal.slice_bounds-add_pdu-end
slice_bounds-add_pdu-end c =
    let begins = (c.in-Ok.ensures.ok (pdu_view c.in-Ok.pdu) c.in-Ok.end).0 refl in
    omega (arith, begins.1, length-take-le c.in-Ok.end c.args.octets.now begins.1)

pub add_pdu-requires : goal.add_pdu-requires
add_pdu-requires c =
    let begins = (c.in-Ok.ensures.ok (pdu_view c.in-Ok.pdu) c.in-Ok.end).0 refl in
    omega (arith, begins.0.least, length-take-le c.in-Ok.end c.args.octets.now begins.1)
