use Rattle.std.proofs.Common.{◌≤◌, length, List, sym, ap, ◌∙◌, subst}
use Rattle.std.specs.Option.{option_map}
use Rattle.isis_edge.specs.Faults.{Rose}
use Rattle.router_desk.specs.Desks.{desk_of}
use Rattle.circuit_threads.specs.declared.behind.Start.{Start}
use Rattle.circuit_threads.specs.declared.entry.JournalEntry.{JournalEntry}
use Rattle.circuit_threads.specs.History.{IsHistory}
use Rattle.circuit_threads.specs.Told.{Told, told_of}
use Rattle.circuit_threads.proofs.HistoryLemmas.{nothing-entries, nothing-marked, nothing-told, nothing-history}
use Rattle.circuit_threads.proofs.behind.Behind.add_nothing.Goals as goal

pub invariant_of-self : goal.invariant_of-self
invariant_of-self g c =
    let s = c.args.self.now in let items = c.push.new.self.items in let tells = g.J.Journal.tells in let faults = g.J.Journal.faults in
    let more = c.push.ensures.items in let begun = sym c.push.ensures.beginning in
    record {
      history = subst (λ (b : Start _). IsHistory b.router.value s.router items s.stop) begun (nothing-history s.notes.items items more _ _ _ s.history);
      counted = ap (λ (es : List JournalEntry). length es) (nothing-entries s.notes.items items more) ∙ s.counted;
      stopped = s.stopped;
      mark = ap (option_map (λ (e : JournalEntry). e.number)) (nothing-marked s.notes.items items more) ∙ s.mark;
      told = subst (λ (b : Start _). ∥ tells b.journal.value s.journal (told_of items) ∥₁) begun
          (subst (λ (t : Told). ∥ tells s.notes.beginning.journal.value s.journal t ∥₁) (sym (nothing-told s.notes.items items more)) s.told);
      later = subst (λ (b : Start _). faults b.journal.value ≤ faults s.journal) begun s.later;
      fault = λ n e. subst (λ (b : Start _). Rose (faults b.journal.value) (faults s.journal)) begun (s.fault n e);
      desk = s.desk ∙ ap (λ (b : Start _). desk_of b.router.value.config b.router.value.circuits) begun;
    }
