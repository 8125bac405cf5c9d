use Rattle.std.proofs.Common.{◌≡◌, ◌+◌, ◌≤◌, List, length, Some, None, IfOk, sym, ap, ◌∙◌, subst, arith}
use Rattle.std.specs.Option.{option_map}
use Rattle.std.proofs.Math.Logic.{∥∥₁_map}
use Rattle.model_router.specs.Routers.{Router}
use Rattle.model_router.specs.AdjacencyLaws.{place_of}
use Rattle.model_router.specs.Steps.{step}
use Rattle.isis_edge.specs.Faults.{Rose}
use Rattle.router_desk.specs.Desks.{desk_of}
use Rattle.router_core.specs.declared.event.NodeEvent.{NodeEvent}
use Rattle.router_core.specs.Events.{event_of}
use Rattle.router_core.specs.Givens.{given}
use Rattle.router_core.specs.Replies.{Answers}
use Rattle.circuit_threads.specs.declared.behind.Start.{Start}
use Rattle.circuit_threads.specs.declared.entry.JournalEntry.{JournalEntry}
use Rattle.circuit_threads.specs.declared.entry.Note.{Note}
use Rattle.circuit_threads.specs.History.{entries, IsHistory}
use Rattle.circuit_threads.specs.Told.{Told, told_of}
use Rattle.circuit_threads.proofs.DeskLemmas.{desk-step}
use Rattle.circuit_threads.proofs.HistoryLemmas.{entries-few, none-marked, made-history, marked-history, made-count, marked-count, made-marked, marked-marked, made-told, marked-told, rose-later}
use Rattle.circuit_threads.proofs.behind.Behind.take.Goals as goal

pub overflow_add-number : goal.overflow_add-number
overflow_add-number g c =
    let s = c.take_room.new.self in
    let turns = ap (λ (ns : List Note). length ns) c.take_room.ensures.items in
    record { fits = omega (arith, s.counted, entries-few s.notes.items, turns, c.requires.room) }

pub invariant_of-self-in-Ok-append : goal.invariant_of-self-in-Ok-append
invariant_of-self-in-Ok-append g c =
    let s = c.take_room.new.self in let r = s.router in let t = c.step.new.self in let ns = s.notes.items in
    let p = c.note_made in let new = p.new.notes.items in
    let tells = g.J.Journal.tells in let faults = g.J.Journal.faults in
    let e : JournalEntry = record { number = s.last + 1; pass = c.args.pass; event = c.in-Ok.copy; reply = c.in-Ok-step.reply } in
    let same : c.in-Ok.copy ≡ c.args.event = subst (λ z. IfOk z (λ copy. copy ≡ c.args.event)) c.in-Ok.is c.requires.copy in
    let none : s.stop ≡ None = c.take_room.ensures.parts.2 ∙ c.in_default.is in
    let unmarked = none-marked ns (s.mark ∙ none) in
    let was = subst (IsHistory s.notes.beginning.router.value r ns) none s.history in
    let state : t ≡ (step given r (event_of r e.event)).router = c.in-Ok-step.ensures.state ∙ ap (λ (v : NodeEvent). (step given r (event_of r v)).router) (sym same) in
    let answers : Answers t (place_of (event_of r e.event)) (step given r (event_of r e.event)).reply e.reply =
    subst (λ (v : NodeEvent). Answers t (place_of (event_of r v)) (step given r (event_of r v)).reply e.reply) (sym same) c.in-Ok-step.ensures.reply in
    let number : e.number ≡ length (entries ns) + 1 = ap (λ n. n + 1) (sym s.counted) in
    let more = p.ensures.items in let begun = sym p.ensures.beginning in
    record {
      history = subst (λ (b : Start _). IsHistory b.router.value t new s.stop) begun
          (subst (IsHistory s.notes.beginning.router.value t new) (sym none) (made-history s.notes.beginning.router.value r t ns new e was number state answers more));
      counted = made-count ns new e unmarked more ∙ ap (λ n. n + 1) s.counted;
      stopped = λ n is. let no : None ≡ Some n = sym none ∙ is in absurd (cc no);
      mark = ap (option_map (λ (x : JournalEntry). x.number)) (made-marked ns new e unmarked more) ∙ sym none;
      told = subst (λ (b : Start _). ∥ tells b.journal.value c.append.new.self (told_of new) ∥₁) begun
          (subst (λ (w : Told). ∥ tells s.notes.beginning.journal.value c.append.new.self w ∥₁) (made-told ns new e unmarked more)
          (∥∥₁_map s.told (λ w. c.in-Ok-append.ensures.tells s.notes.beginning.journal.value (told_of ns) unmarked w)));
      later = subst (λ (b : Start _). faults b.journal.value ≤ faults c.append.new.self) begun (omega (arith, s.later, c.append.ensures.later));
      fault = λ n is. let no : None ≡ Some n = sym none ∙ is in absurd (cc no);
      desk = ap (λ (q : Router). desk_of q.config q.circuits) state ∙ (desk-step given r (event_of r e.event) ∙ (s.desk ∙ ap (λ (b : Start _). desk_of b.router.value.config b.router.value.circuits) begun));
    }

pub invariant_of-self-in-Err : goal.invariant_of-self-in-Err
invariant_of-self-in-Err g c =
    let s = c.take_room.new.self in let r = s.router in let t = c.step.new.self in let ns = s.notes.items in
    let p = c.note_marked-receipt in let new = p.new.notes.items in
    let tells = g.J.Journal.tells in let faults = g.J.Journal.faults in
    let e : JournalEntry = record { number = s.last + 1; pass = c.args.pass; event = c.in-Ok.copy; reply = c.in-Ok-step.reply } in
    let same : c.in-Ok.copy ≡ c.args.event = subst (λ z. IfOk z (λ copy. copy ≡ c.args.event)) c.in-Ok.is c.requires.copy in
    let none : s.stop ≡ None = c.take_room.ensures.parts.2 ∙ c.in_default.is in
    let unmarked = none-marked ns (s.mark ∙ none) in
    let was = subst (IsHistory s.notes.beginning.router.value r ns) none s.history in
    let state : t ≡ (step given r (event_of r e.event)).router = c.in-Ok-step.ensures.state ∙ ap (λ (v : NodeEvent). (step given r (event_of r v)).router) (sym same) in
    let answers : Answers t (place_of (event_of r e.event)) (step given r (event_of r e.event)).reply e.reply =
    subst (λ (v : NodeEvent). Answers t (place_of (event_of r v)) (step given r (event_of r v)).reply e.reply) (sym same) c.in-Ok-step.ensures.reply in
    let number : e.number ≡ length (entries ns) + 1 = ap (λ n. n + 1) (sym s.counted) in
    let more = p.ensures.items in let begun = sym p.ensures.beginning in
    record {
      history = subst (λ (b : Start _). IsHistory b.router.value t new (Some e.number)) begun
          (marked-history s.notes.beginning.router.value r t ns new e was number state answers more);
      counted = marked-count ns new e unmarked more ∙ ap (λ n. n + 1) s.counted;
      stopped = λ n is. cc is;
      mark = ap (option_map (λ (x : JournalEntry). x.number)) (marked-marked ns new e unmarked more);
      told = subst (λ (b : Start _). ∥ tells b.journal.value c.append.new.self (told_of new) ∥₁) begun
          (subst (λ (w : Told). ∥ tells s.notes.beginning.journal.value c.append.new.self w ∥₁) (marked-told ns new e unmarked _ more)
          (∥∥₁_map s.told (λ w. c.in-Err.ensures.tells s.notes.beginning.journal.value (told_of ns) unmarked w)));
      later = subst (λ (b : Start _). faults b.journal.value ≤ faults c.append.new.self) begun (omega (arith, s.later, c.append.ensures.later));
      fault = λ n is. subst (λ (b : Start _). Rose (faults b.journal.value) (faults c.append.new.self)) begun (rose-later _ _ _ s.later c.in-Err.ensures.cause);
      desk = ap (λ (q : Router). desk_of q.config q.circuits) state ∙ (desk-step given r (event_of r e.event) ∙ (s.desk ∙ ap (λ (b : Start _). desk_of b.router.value.config b.router.value.circuits) begun));
    }
