use Rattle.std.proofs.Common.{◌≡◌, ◌∙◌, ℕ, ◌*◌, List, Bool, Option, sym, ap, subst, arith}
use Rattle.std.specs.Option.{option_copied}
use Rattle.isis_base.specs.declared.pdu_kind.PduKind.TheVariants as kind
use Rattle.model_router.specs.Datagrams as sent
use Rattle.model_router.specs.Numbers.{system_id, system_number}
use Rattle.model_datagram.specs.Signing.{signed}
use Rattle.model_datagram.specs.Datagrams.{datagram}
use Rattle.model_datagram.specs.Tlvs.{entry_tlvs}
use Rattle.isis_tlv.specs.Spelling.{entry_tlv}
use Rattle.flag_sync.specs.Heard.{entries_of}
use Rattle.router_sending.specs.Writing.{pieced, IsEndable, ended, frame_of}
use Rattle.router_sending.proofs.EndLemmas.{before_end, endable, datagram-ended}
use Rattle.router_sending.proofs.SendLemmas.{behind, partial, partial-begun, entries-fit, partial-written, partial-datagram, copied-some, few-entries}
use Rattle.router_sending.proofs.snps.psnp.Goals as goal

pub end-requires : goal.end-requires
end-requires c =
    let s = c.args.sender.now in
    let n = system_number s.system in
    let key = option_copied c.level_key-key.result in
    let list = entries_of c.args.entries.now in
    let pdu = partial c.args.level (256 * n) in
    let tlvs = entry_tlvs list in
    let fit = entries-fit list (few-entries c.args.entries.now c.requires) in
    let keyed = c.is_some.ensures ∙ copied-some c.level_key-key.result in
    let written =
    behind (pieced 15 entry_tlv c.args.entries.now) c.in_ok-put_all_entries.ensures c.in_ok-octets.ensures.octets
    ∙ partial-written s.system n s.boot c.system_law.ensures c.is_some.result c.args.level c.args.entries.now c.entries_law.ensures
    ∙ ap (λ (k : Bool). before_end n s.boot pdu k tlvs) keyed in
    let size = fit.fits in
    subst (IsEndable (kind.Psnp c.args.level) key) (sym written) (endable (kind.Psnp c.args.level) pdu (partial-begun c.args.level (256 * n)) tlvs fit.are (omega (arith, size)) n s.boot key)

pub returns : goal.returns
returns c config boot place circuit sends =
    let s = c.args.sender.now in
    let n = system_number s.system in
    let key = option_copied c.level_key-key.result in
    let list = entries_of c.args.entries.now in
    let pdu = partial c.args.level (256 * n) in
    let tlvs = entry_tlvs list in
    let fit = entries-fit list (few-entries c.args.entries.now c.requires) in
    let keyed = c.is_some.ensures ∙ copied-some c.level_key-key.result in
    let written =
    behind (pieced 15 entry_tlv c.args.entries.now) c.in_ok-put_all_entries.ensures c.in_ok-octets.ensures.octets
    ∙ partial-written s.system n s.boot c.system_law.ensures c.is_some.result c.args.level c.args.entries.now c.entries_law.ensures
    ∙ ap (λ (k : Bool). before_end n s.boot pdu k tlvs) keyed in
    c.end.ensures ∙ ap (ended (kind.Psnp c.args.level) key) written ∙ datagram-ended (kind.Psnp c.args.level) pdu (partial-begun c.args.level (256 * n)) tlvs fit.are n s.boot key
    ∙ subst (λ (k : Option (List ℕ)). frame_of (system_id n) s.boot (signed k pdu tlvs) ≡ datagram config boot place circuit (sent.Psnp c.args.level list)) (sym c.level_key-key.ensures)
    (partial-datagram s config boot place circuit sends c.args.level list)
