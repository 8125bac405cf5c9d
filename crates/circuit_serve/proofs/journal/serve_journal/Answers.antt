use Rattle.std.proofs.Common.{◌≡◌, ◌⊎◌, ⊎_elim, ℕ, ◌+◌, List, [], ◌++◌, refl, sym, ap, ◌∙◌, subst, append-nil}
use Rattle.isis_edge.specs.Told.{Wrote}
use Rattle.isis_edge.specs.Faults.{Rose}
use Rattle.model_router.specs.Routers.{Router}
use Rattle.turn_lock.specs.Passes.{seen}
use Rattle.circuit_threads.specs.declared.entry.Note.{Note}
use Rattle.circuit_threads.specs.declared.entry.JournalEntry.{JournalEntry}
use Rattle.circuit_threads.specs.History.{entries, opening}
use Rattle.circuit_threads.specs.JournalText.{head_text}
use Rattle.circuit_threads.specs.Sharing.{first_router, first_journal, HasAll}
use Rattle.circuit_serve.specs.declared.end.ServeEnd.TheVariants as serve
use Rattle.circuit_serve.specs.Labels.{of_label}
use Rattle.circuit_serve.specs.Ends.{IsEnd, TickerIs}
use Rattle.circuit_serve.specs.Served.{circuit_turns}
use Rattle.circuit_serve.specs.Walks.{IsCalm}
use Rattle.circuit_serve.proofs.Gathered.{weaker}
use Rattle.circuit_serve.specs.declared.daemon_end.DaemonEnd.TheVariants.{Done, OutOfMemory}
use Rattle.circuit_serve.specs.Histories.{by_pass, JournalRan}
use Rattle.circuit_serve.proofs.Histories.{label_entries, history_replayed, counted_lines, last_marked, calm_unmarked, stopped_marked}
use Rattle.circuit_serve.proofs.Served.{journal_early, daemon_done, daemon_fault, daemon_memory}
use Rattle.circuit_serve.proofs.Written.{prefix_all, whole_written, some_written}
use Rattle.circuit_serve.proofs.journal.serve_journal.Goals as goal

pub returns-in-Err-clause-ran : goal.returns-in-Err-clause-ran
returns-in-Err-clause-ran g c = λ held begun.
    let sink : c.into_sink.result ≡ c.args.journal.sink = c.into_sink.ensures ∙ ap (λ j. j.sink) c.in-Err.ensures.err.1 in
    let now = g.O.Sink.put c.into_sink.result in
    let wrote : Wrote held now (head_text ++ []) = subst (Wrote held now) (sym (append-nil head_text)) (subst (λ o. Wrote held (g.O.Sink.put o) head_text) (sym sink) begun) in
    journal_early g.Q.Port.opening g.Q.Port.given g.Q.Port.offered g.Q.Port.asked c.args.router c.args.turns c.args.ports.items (g.T.Pacer.given c.args.pacer) (g.T.Pacer.ended c.args.pacer) held now _
    (λ done. cc done) (λ memory. wrote) (prefix_all held now (head_text ++ []) wrote) c.requires.fresh

pub returns-clause-ran : goal.returns-clause-ran
returns-clause-ran g c = λ held begun.
    let shared = c.in-Ok.made.0 in let n = c.in-Ok.ensures in let s = c.serve-pass.ensures.served in let p = c.serve-pass.result.0 in let notes : List Note = seen p in
    let first : Router = first_router shared in let end = c.serve-pass.result.3 in let turns : ℕ = c.args.turns in
    let has : HasAll shared p = s.share ∙ (n.pass.0 ∙ sym n.turns) in
    let closed = c.in-Ok-close.ensures.whole has in
    let now = g.O.Sink.put c.into_sink-in-Ok-close.result in
    let told = subst (λ o. ∥ Rattle.circuit_threads.specs.Told.WroteTold (g.O.Sink.put (first_journal shared).sink) (g.O.Sink.put o) (Rattle.circuit_threads.specs.Told.told_of notes) ∥₁) (sym c.into_sink-in-Ok-close.ensures) closed.told in
    let head = subst (λ j. Wrote held (g.O.Sink.put j.sink) head_text) (sym n.journal) begun in
    let started = g.O.Sink.put (first_journal shared).sink in
    let well = λ (done : c.end_of.result ≡ Done). daemon_done end (sym c.end_of.ensures ∙ done) in
    let calm : (c.end_of.result ≡ Done) ⊎ (c.end_of.result ≡ OutOfMemory) → IsCalm first notes =
    λ at. ⊎_elim (λ done. subst (IsEnd first notes) (well done) s.ends) (λ memory. subst (IsEnd first notes) (daemon_memory end (sym c.end_of.ensures ∙ memory)) s.ends) at in
    let ran : JournalRan g.Q.Port.opening g.Q.Port.given g.Q.Port.offered g.Q.Port.asked first turns c.args.ports.items c.serve-pass.result.1.items (g.T.Pacer.given c.args.pacer) (g.T.Pacer.given c.serve-pass.result.2) (g.T.Pacer.ended c.serve-pass.result.2) held now c.end_of.result = record {
      entries = entries notes;
      replayed = history_replayed first _ notes closed.history;
      written = some_written held started now notes head told (λ e is. last_marked (opening first) notes e refl (counted_lines first _ notes closed.history) is);
      whole = λ at. whole_written held started now notes head told (calm_unmarked first _ notes closed.history (calm at));
      count = s.count;
      openings = s.openings;
      circuits = λ i port at. weaker g.Q.Port.given g.Q.Port.offered g.Q.Port.asked (circuit_turns turns) (i + 1) port (of_label (i + 1) notes) (by_pass (i + 1) (entries notes)) (end ≡ serve.Done) (c.end_of.result ≡ Done) (sym (label_entries (i + 1) notes)) well (s.circuits i port at);
      others = λ d past. sym (label_entries d notes) ∙ s.others d past;
      ticker = subst (λ (es : List JournalEntry). TickerIs es (g.T.Pacer.given c.args.pacer) (g.T.Pacer.given c.serve-pass.result.2) (g.T.Pacer.ended c.serve-pass.result.2) turns (c.end_of.result ≡ Done)) (label_entries 0 notes) (s.ticker.0, λ done. s.ticker.1 (well done));
    } in
    subst (λ (r : Router). JournalRan g.Q.Port.opening g.Q.Port.given g.Q.Port.offered g.Q.Port.asked r turns c.args.ports.items c.serve-pass.result.1.items (g.T.Pacer.given c.args.pacer) (g.T.Pacer.given c.serve-pass.result.2) (g.T.Pacer.ended c.serve-pass.result.2) held now c.end_of.result) n.router ran

pub returns-clause-write_fault : goal.returns-clause-write_fault
returns-clause-write_fault g c = λ fault.
    let shared = c.in-Ok.made.0 in let n = c.in-Ok.ensures in let s = c.serve-pass.ensures.served in let p = c.serve-pass.result.0 in let notes : List Note = seen p in
    let first : Router = first_router shared in let end = c.serve-pass.result.3 in
    let has : HasAll shared p = s.share ∙ (n.pass.0 ∙ sym n.turns) in
    let closed = c.in-Ok-close.ensures.whole has in
    let at = daemon_fault end (sym c.end_of.ensures ∙ fault) in
    let stop = subst (IsEnd first notes) at.1 s.ends in
    let e = stopped_marked first _ notes closed.history at.0 stop in
    subst (λ o. Rose (g.O.Sink.faults c.args.journal.sink) (g.O.Sink.faults o)) (sym c.into_sink-in-Ok-close.ensures)
    (subst (λ j. Rose (g.O.Sink.faults j.sink) (g.O.Sink.faults c.in-Ok-close.journal.sink)) n.journal (closed.fault e.0 e.1))
