use Rattle.std.proofs.Common.{◌≡◌, ◌≤◌, List, [], length, None, sym, refl, ap, ◌∙◌, subst, arith}
use Rattle.std.specs.Option.{option_map}
use Rattle.model_router.specs.Routers.{Router}
use Rattle.router_desk.specs.Desks.{desk_of}
use Rattle.circuit_threads.specs.declared.behind.Start.{Start}
use Rattle.circuit_threads.specs.declared.entry.JournalEntry.{JournalEntry}
use Rattle.circuit_threads.specs.declared.entry.Note.{Note}
use Rattle.circuit_threads.specs.History.{entries, marked, IsHistory}
use Rattle.circuit_threads.specs.Told.{told_of}
use Rattle.circuit_threads.proofs.behind.Behind.new.Goals as goal

pub invariant_of-result : goal.invariant_of-result
invariant_of-result g c =
    let r = c.args.router in let j = c.args.journal in let notes = c.new-notes.result in
    let tells = g.J.Journal.tells in let faults = g.J.Journal.faults in
    let none = sym c.new-notes.ensures.0 in
    let router : r ≡ notes.beginning.router.value = sym (ap (λ (b : Start _). b.router.value) c.new-notes.ensures.1 ∙ c.of.ensures) in
    let journal : j ≡ notes.beginning.journal.value = sym (ap (λ (b : Start _). b.journal.value) c.new-notes.ensures.1 ∙ c.of-2.ensures) in
    record {
      history = subst (λ (ns : List Note). IsHistory notes.beginning.router.value r ns None) none
          (subst (λ (q : Router). IsHistory q r [] None) router refl);
      counted = subst (λ (ns : List Note). length (entries ns) ≡ 0) none refl;
      stopped = λ n is. absurd (cc is);
      mark = subst (λ (ns : List Note). option_map (λ (e : JournalEntry). e.number) (marked ns) ≡ None) none refl;
      told = subst (λ b. ∥ tells b j (told_of notes.items) ∥₁) journal
          (subst (λ (ns : List Note). ∥ tells j j (told_of ns) ∥₁) none ∣ c.requires ∣₁);
      later = subst (λ b. faults b ≤ faults j) journal (omega arith);
      fault = λ n is. absurd (cc is);
      desk = ap (λ (q : Router). desk_of q.config q.circuits) router;
    }
