use Rattle.std.proofs.Common.{◌≡◌, ◌++◌, [], false, length, length-append, ◌∙◌, ap, arith}
use Rattle.circuit_serve.proofs.DaemonLemmas.{daemon_early, daemon_refused, daemon_served, opened_count, opened_few, first_circuits}
use Rattle.circuit_serve.proofs.daemon.run_daemon.Goals as goal

pub returns-in_default-clause-ran : goal.returns-in_default-clause-ran
returns-in_default-clause-ran g c = daemon_early _ _ _ _ _ _ _ _ _

pub returns-in_default-with_capacity-clause-ran : goal.returns-in_default-with_capacity-clause-ran
returns-in_default-with_capacity-clause-ran g c = daemon_early _ _ _ _ _ _ _ _ _

pub close_ports-requires-clause-few : goal.close_ports-requires-clause-few
close_ports-requires-clause-few g c κs within =
    let few = opened_few g.P.Port.Port.opening g.P.Port.Port.given g.P.Port.Port.offered g.P.Port.Port.asked c.args.config c.args.places c.args.boot c.args.turns 0 0 false [] [] 0 0 [] [] [] c.open_ports-opened.result.0.items _ c.open_ports-opened.ensures.openings in
    omega (arith, few, c.requires.circuits.0, c.requires.valid.few_circuits)

pub returns-in-Err-clause-ran : goal.returns-in-Err-clause-ran
returns-in-Err-clause-ran g c =
    let o = c.open_ports-opened.ensures in
    daemon_refused g.P.Port.Port.opening g.P.Port.Port.given g.P.Port.Port.offered g.P.Port.Port.asked c.args.config c.args.places c.args.boot c.args.turns (g.T.Pacer.given c.args.pacer) 0 (g.T.Pacer.ended c.args.pacer) (g.O.Sink.put c.args.output) (g.O.Sink.put c.args.output)
    (g.P.Ports.opened c.args.ports.now) (g.P.Ports.opened c.close_ports.new.ports) (g.P.Ports.closed c.args.ports.now) (g.P.Ports.closed c.open_ports-opened.new.ports) (g.P.Ports.closed c.close_ports.new.ports)
    c.open_ports-opened.result.0.items _ o.openings o.fresh (c.close_ports.ensures.count ∙ o.count) o.closed c.close_ports.ensures.closed

pub serve_with_journal-opened-requires-clause-circuits : goal.serve_with_journal-opened-requires-clause-circuits
serve_with_journal-opened-requires-clause-circuits g c κs within =
    let o = c.open_ports-opened.ensures.openings in
    let size = opened_count g.P.Port.Port.opening g.P.Port.Port.given g.P.Port.Port.offered g.P.Port.Port.asked c.args.config c.args.places c.args.boot c.args.turns 0 0 false [] [] 0 0 [] [] [] c.open_ports-opened.result.0.items _ o in
    let all : o.used ++ o.unused ≡ c.args.places = o.all in
    let none = o.whole c.in-Ok-answer.is in
    let parts = length-append o.used o.unused in let both = ap (λ z. length z) all in let zero = ap (λ z. length z) none in
    let circuits : length c.in-Some.router.circuits ≡ length c.args.config.circuits = ap (λ r. length r.circuits) c.in-Some.ensures ∙ first_circuits c.args.config c.args.boot in
    (omega (arith, size, parts, both, zero, circuits, c.requires.circuits.0), omega (arith, size, parts, both, zero, c.requires.circuits.1), omega (arith, size, parts, both, zero, c.requires.circuits.0, c.requires.valid.few_circuits))

pub close_ports-requires-2-clause-few : goal.close_ports-requires-2-clause-few
close_ports-requires-2-clause-few g c κs within =
    let few = opened_few g.P.Port.Port.opening g.P.Port.Port.given g.P.Port.Port.offered g.P.Port.Port.asked c.args.config c.args.places c.args.boot c.args.turns 0 0 false [] [] 0 0 [] [] [] c.open_ports-opened.result.0.items _ c.open_ports-opened.ensures.openings in
    omega (arith, few, c.serve_with_journal-opened.ensures.ran.count, c.requires.circuits.0, c.requires.valid.few_circuits)

pub returns-clause-ran : goal.returns-clause-ran
returns-clause-ran g c =
    let o = c.open_ports-opened.ensures in let s = c.serve_with_journal-opened in
    daemon_served g.P.Port.Port.opening g.P.Port.Port.given g.P.Port.Port.offered g.P.Port.Port.asked c.args.config c.args.places c.args.boot c.args.turns (g.T.Pacer.given c.args.pacer) (g.T.Pacer.given s.result.2) (g.T.Pacer.ended s.result.2) (g.O.Sink.put c.args.output) (g.O.Sink.put s.result.1)
    (g.P.Ports.opened c.args.ports.now) (g.P.Ports.opened c.close_ports-2.new.ports) (g.P.Ports.closed c.args.ports.now) (g.P.Ports.closed c.open_ports-opened.new.ports) (g.P.Ports.closed c.close_ports-2.new.ports)
    c.open_ports-opened.result.0.items s.result.0.items _ o.openings c.in-Ok-answer.is c.in-Some.router c.in-Some.ensures s.result.3 s.ensures.ran (c.close_ports-2.ensures.count ∙ o.count) o.closed c.close_ports-2.ensures.closed
