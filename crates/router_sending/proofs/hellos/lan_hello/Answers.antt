use Rattle.std.proofs.Common.{◌∙◌, [], Bool, sym, ap, subst, arith}
use Rattle.std.specs.Option.{option_copied}
use Rattle.isis_base.specs.declared.pdu_kind.PduKind.TheVariants as kind
use Rattle.model_router.specs.Numbers.{system_number, node_number}
use Rattle.model_datagram.specs.Tlvs.{hello_tlvs, lan_tlvs}
use Rattle.router_sending.specs.Sends.{snpas_of}
use Rattle.router_sending.specs.Writing.{pieced, heard_tlv, IsEndable, ended}
use Rattle.router_sending.proofs.EndLemmas.{before_end, endable, datagram-ended}
use Rattle.router_sending.proofs.SendLemmas.{behind, lan, lan-begun, lan-fit, lan-written, lan-datagram, copied-some, few-snpas}
use Rattle.router_sending.proofs.hellos.lan_hello.Goals as goal

pub end-requires : goal.end-requires
end-requires c =
    let s = c.args.sender.now in
    let n = system_number s.system in
    let key = option_copied s.key in
    let list = snpas_of c.args.heard.now in
    let id = node_number c.args.lan in
    let pdu = lan c.args.level s.levels n s.priority id in
    let tlvs = lan_tlvs s.areas.now s.address list in
    let fit = lan-fit s.areas.now s.address list c.requires.areas (few-snpas c.args.heard.now c.requires.few) in
    let keyed = c.is_some.ensures ∙ copied-some s.key in
    let written =
    behind (pieced 42 heard_tlv c.args.heard.now) c.in_ok-put_heard.ensures (behind (hello_tlvs s.areas.now s.address []) c.in_ok-put_common.ensures c.in_ok-octets.ensures.octets)
    ∙ lan-written s.system n s.boot c.system_law.ensures c.is_some.result c.args.level s.levels s.priority c.args.lan id s.areas.now s.address c.args.heard.now c.node_law.ensures c.snpas_law.ensures
    ∙ ap (λ (k : Bool). before_end n s.boot pdu k tlvs) keyed in
    let size = fit.fits in
    subst (IsEndable (kind.LanHello c.args.level) key) (sym written) (endable (kind.LanHello c.args.level) pdu (lan-begun c.args.level s.levels n s.priority id c.requires.priority) tlvs fit.are (omega (arith, size)) n s.boot key)

pub returns : goal.returns
returns c config boot place circuit sends =
    let s = c.args.sender.now in
    let n = system_number s.system in
    let key = option_copied s.key in
    let list = snpas_of c.args.heard.now in
    let id = node_number c.args.lan in
    let pdu = lan c.args.level s.levels n s.priority id in
    let tlvs = lan_tlvs s.areas.now s.address list in
    let fit = lan-fit s.areas.now s.address list c.requires.areas (few-snpas c.args.heard.now c.requires.few) in
    let keyed = c.is_some.ensures ∙ copied-some s.key in
    let written =
    behind (pieced 42 heard_tlv c.args.heard.now) c.in_ok-put_heard.ensures (behind (hello_tlvs s.areas.now s.address []) c.in_ok-put_common.ensures c.in_ok-octets.ensures.octets)
    ∙ lan-written s.system n s.boot c.system_law.ensures c.is_some.result c.args.level s.levels s.priority c.args.lan id s.areas.now s.address c.args.heard.now c.node_law.ensures c.snpas_law.ensures
    ∙ ap (λ (k : Bool). before_end n s.boot pdu k tlvs) keyed in
    c.end.ensures ∙ ap (ended (kind.LanHello c.args.level) key) written ∙ datagram-ended (kind.LanHello c.args.level) pdu (lan-begun c.args.level s.levels n s.priority id c.requires.priority) tlvs fit.are n s.boot key
    ∙ lan-datagram s config boot place circuit sends c.args.level id list
