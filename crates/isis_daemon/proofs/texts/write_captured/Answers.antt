use Rattle.std.proofs.Common.{sym, subst}
use Rattle.capture_text.specs.TextEnds.{TextEnds}
use Rattle.isis_daemon.specs.declared.command.CapturedText.{CapturedText}
use Rattle.isis_daemon.specs.Runs.{IsCapturedText}
use Rattle.isis_daemon.proofs.texts.write_captured.Goals as goal

pub returns-in-Routes-clause-ends : goal.returns-in-Routes-clause-ends
returns-in-Routes-clause-ends g c =
    let ends = g.O.Sink.put c.args.output.now in
    let later = g.O.Sink.put c.write_routes.new.output in
    subst (λ (what : CapturedText). TextEnds (IsCapturedText what c.args.level c.args.system c.args.input.now) ends later c.write_routes.result) (sym c.in-Routes.is) c.write_routes.ensures.ends

pub returns-in-Routes6-clause-ends : goal.returns-in-Routes6-clause-ends
returns-in-Routes6-clause-ends g c =
    let ends = g.O.Sink.put c.args.output.now in
    let later = g.O.Sink.put c.write_routes6.new.output in
    subst (λ (what : CapturedText). TextEnds (IsCapturedText what c.args.level c.args.system c.args.input.now) ends later c.write_routes6.result) (sym c.in-Routes6.is) c.write_routes6.ensures.ends

pub returns-in-Alternates-clause-ends : goal.returns-in-Alternates-clause-ends
returns-in-Alternates-clause-ends g c =
    let ends = g.O.Sink.put c.args.output.now in
    let later = g.O.Sink.put c.write_alternates.new.output in
    subst (λ (what : CapturedText). TextEnds (IsCapturedText what c.args.level c.args.system c.args.input.now) ends later c.write_alternates.result) (sym c.in-Alternates.is) c.write_alternates.ensures.ends
