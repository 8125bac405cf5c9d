use Rattle.std.proofs.Common.{[], ◌++◌, sym, subst, append-nil}
use Rattle.isis_edge.specs.Told.{WrotePrefix}
use Rattle.circuit_threads.specs.JournalText.{head_text}
use Rattle.circuit_serve.proofs.Served.{journal_early}
use Rattle.circuit_serve.proofs.journal.serve_with_journal.Goals as goal

pub returns-in-Err-clause-ran : goal.returns-in-Err-clause-ran
returns-in-Err-clause-ran g c =
    let held = g.O.Sink.put c.args.output in let now = g.O.Sink.put c.in-Err.output in
    let wrote : WrotePrefix held now (head_text ++ []) = subst (WrotePrefix held now) (sym (append-nil head_text)) c.in-Err.ensures.begun in
    journal_early g.Q.Port.opening g.Q.Port.given g.Q.Port.offered g.Q.Port.asked c.args.router c.args.turns c.args.ports.items (g.T.Pacer.given c.args.pacer) (g.T.Pacer.ended c.args.pacer) held now _ (λ done. cc done) (λ memory. absurd (cc memory)) wrote c.requires.fresh

pub returns-clause-ran : goal.returns-clause-ran
returns-clause-ran g c = c.serve_journal.ensures.ran (g.O.Sink.put c.args.output) c.in-Ok.ensures.ok
