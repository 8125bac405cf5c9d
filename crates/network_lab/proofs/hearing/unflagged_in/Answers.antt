use Rattle.std.proofs.Common.{◌-◌, ℕ, sym, ap, ◌∙◌}
use Rattle.isis_pdu.specs.Views.{pdu_view}
use Rattle.model_router.specs.Places.{nth}
use Rattle.router_desk.specs.Desks.{desk_of}
use Rattle.router_desk.specs.Opening.{SeenView, seen_view, message_of}
use Rattle.network_lab.proofs.HearLemmas.{lan-at, level-run, pdu-heard}
use Rattle.network_lab.proofs.hearing.unflagged_in.Goals as goal

pub unflagged_pdu-requires : goal.unflagged_pdu-requires
unflagged_pdu-requires g c =
    let desk = desk_of c.args.r.now.config c.args.r.now.circuits in
    let view : SeenView = record { snpa = c.in-Ok.seen.from.snpa; boot = c.in-Ok.seen.from.boot; pdu = pdu_view c.in-Ok.seen.pdu; octets = c.in-Ok.seen.octets.now } in
    record { run = level-run desk c.args.opened.now.circuit view (c.passed_law.ensures desk c.args.opened.now.circuit c.args.opened.now.octets view (sym c.requires.opened ∙ (sym c.seen.ensures ∙ ap seen_view c.in-Ok.is))) }

pub returns-in-Ok : goal.returns-in-Ok
returns-in-Ok g c =
    let r = c.args.r.now in
    pdu-heard c.unflagged_pdu.result r (c.args.opened.now.circuit - 1) (message_of r.config.system c.args.opened.now.seen) _ (ap (message_of r.config.system) (sym c.seen.ensures ∙ ap seen_view c.in-Ok.is))
    (λ on at. sym (lan-at r c.circuit.result on c.desk.result.now c.kind.result c.is_lan.result (ap (λ (k : ℕ). nth r.circuits (k - 1)) c.circuit.ensures ∙ at) c.desk.ensures c.kind.ensures c.is_lan.ensures) ∙ c.if-not-is_lan.false)
    c.unflagged_pdu.ensures
