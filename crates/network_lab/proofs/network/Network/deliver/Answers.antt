use Rattle.std.proofs.Common.{sym, ◌∙◌}
use Rattle.network_lab.proofs.TakeLemmas.{deliver-off-ends, deliver-none-ends, deliver-stops, deliver-ends, deliver-happens, delivered-there, delivered-number}
use Rattle.network_lab.proofs.network.Network.deliver.Goals as goal

pub returns-in-Err : goal.returns-in-Err
returns-in-Err g c = deliver-off-ends c.args.self.now c.args.number c.args.router c.in-Err.fault (sym c.delivered_on.ensures ∙ c.in-Err.is)

pub hearing-requires-clause-sent : goal.hearing-requires-clause-sent
hearing-requires-clause-sent g c = delivered-there c.args.self.now.seen c.args.number c.args.router c.in-Ok.link (sym c.delivered_on.ensures ∙ c.in-Ok.is)

pub hearing-requires-clause-number : goal.hearing-requires-clause-number
hearing-requires-clause-number g c = delivered-number c.args.self.now.seen c.args.number c.args.router c.in-Ok.link (sym c.delivered_on.ensures ∙ c.in-Ok.is)

pub returns-in-None : goal.returns-in-None
returns-in-None g c = deliver-none-ends c.args.self.now c.args.number c.args.router c.in-Ok.link c.circuit_on.result (sym c.delivered_on.ensures ∙ c.in-Ok.is) c.in-None.is c.circuit_on.ensures.place

pub returns-in-Ok-hearing : goal.returns-in-Ok-hearing
returns-in-Ok-hearing g c =
    deliver-ends c.args.self.now c.take.new.self c.args.number c.args.router c.in-Ok.link c.in-Some.circuit c.circuit_on.result c.in-Ok-hearing.hearing.event c.in-Ok-hearing.hearing.heard c.take.result
    c.requires.there c.requires.running (sym c.delivered_on.ensures ∙ c.in-Ok.is) c.in-Some.is c.circuit_on.ensures.place
    c.in-Ok-hearing.ensures.event c.in-Ok-hearing.ensures.heard c.take.ensures

pub returns-in-Err-hearing : goal.returns-in-Err-hearing
returns-in-Err-hearing g c =
    deliver-stops c.args.self.now c.stop.new.self c.args.number c.args.router c.in-Ok.link c.in-Some.circuit c.circuit_on.result c.stop.result
    (sym c.delivered_on.ensures ∙ c.in-Ok.is) c.in-Some.is c.circuit_on.ensures.place c.stop.ensures.result c.stop.ensures.stopped

pub take-requires-clause-happens : goal.take-requires-clause-happens
take-requires-clause-happens g c =
    deliver-happens c.args.self.now c.args.number c.args.router c.in-Ok.link c.in-Some.circuit c.circuit_on.result c.in-Ok-hearing.hearing.event c.in-Ok-hearing.hearing.heard
    (sym c.delivered_on.ensures ∙ c.in-Ok.is) c.in-Some.is c.circuit_on.ensures.place
    c.in-Ok-hearing.ensures.event c.in-Ok-hearing.ensures.heard
