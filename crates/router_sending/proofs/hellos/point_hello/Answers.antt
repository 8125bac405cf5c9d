use Rattle.std.proofs.Common.{◌∙◌, [], Some, Bool, sym, ap, subst, arith}
use Rattle.std.specs.Option.{option_copied}
use Rattle.isis_base.specs.declared.pdu_kind.PduKind.TheVariants as kind
use Rattle.model_router.specs.Numbers.{system_number}
use Rattle.model_datagram.specs.Tlvs.{hello_tlvs, point_tlvs}
use Rattle.isis_tlv.specs.Spelling.{three_way_tlv}
use Rattle.router_sending.specs.Sends.{names_of}
use Rattle.router_sending.specs.Writing.{IsEndable, ended}
use Rattle.router_sending.proofs.EndLemmas.{before_end, endable, datagram-ended}
use Rattle.router_sending.proofs.SendLemmas.{behind, point, point-begun, point-fit, point-written, point-datagram, copied-some}
use Rattle.router_sending.proofs.hellos.point_hello.Goals as goal

pub end-requires : goal.end-requires
end-requires c =
    let s = c.args.sender.now in
    let n = system_number s.system in
    let key = option_copied s.key in
    let named = names_of c.args.neighbour in
    let pdu = point s.levels n s.circuit in
    let tlvs = point_tlvs s.areas.now s.address c.args.state c.args.extended named in
    let fit = point-fit s.areas.now s.address c.args.state c.args.extended named c.requires in
    let keyed = c.is_some.ensures ∙ copied-some s.key in
    let written =
    behind (three_way_tlv (record { state = c.args.state; own_id = Some c.args.extended; neighbour = c.args.neighbour })) c.in_ok-put_three_way.ensures.ok (behind (hello_tlvs s.areas.now s.address []) c.in_ok-put_common.ensures c.in_ok-octets.ensures.octets)
    ∙ point-written s.system n s.boot c.system_law.ensures c.is_some.result s.levels s.circuit s.areas.now s.address c.args.state c.args.extended c.args.neighbour named c.names_law.ensures
    ∙ ap (λ (k : Bool). before_end n s.boot pdu k tlvs) keyed in
    let size = fit.fits in
    subst (IsEndable (kind.PointHello) key) (sym written) (endable (kind.PointHello) pdu (point-begun s.levels n s.circuit) tlvs fit.are (omega (arith, size)) n s.boot key)

pub returns : goal.returns
returns c config boot place circuit sends =
    let s = c.args.sender.now in
    let n = system_number s.system in
    let key = option_copied s.key in
    let named = names_of c.args.neighbour in
    let pdu = point s.levels n s.circuit in
    let tlvs = point_tlvs s.areas.now s.address c.args.state c.args.extended named in
    let fit = point-fit s.areas.now s.address c.args.state c.args.extended named c.requires in
    let keyed = c.is_some.ensures ∙ copied-some s.key in
    let written =
    behind (three_way_tlv (record { state = c.args.state; own_id = Some c.args.extended; neighbour = c.args.neighbour })) c.in_ok-put_three_way.ensures.ok (behind (hello_tlvs s.areas.now s.address []) c.in_ok-put_common.ensures c.in_ok-octets.ensures.octets)
    ∙ point-written s.system n s.boot c.system_law.ensures c.is_some.result s.levels s.circuit s.areas.now s.address c.args.state c.args.extended c.args.neighbour named c.names_law.ensures
    ∙ ap (λ (k : Bool). before_end n s.boot pdu k tlvs) keyed in
    c.end.ensures ∙ ap (ended (kind.PointHello) key) written ∙ datagram-ended (kind.PointHello) pdu (point-begun s.levels n s.circuit) tlvs fit.are n s.boot key
    ∙ point-datagram s config boot place circuit sends c.args.state c.args.extended named
