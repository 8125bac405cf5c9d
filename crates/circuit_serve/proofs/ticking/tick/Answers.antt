use Rattle.std.proofs.Common.{[], ◌∷◌, ◌++◌, List, length, sym, ◌∙◌, refl, ap, subst, arith}
use Rattle.turn_lock.specs.Passes.{label, seen}
use Rattle.circuit_threads.specs.declared.entry.JournalEntry.{JournalEntry}
use Rattle.router_core.specs.declared.event.NodeEvent.TheVariants.{Second}
use Rattle.circuit_threads.specs.Answered.{note_of}
use Rattle.circuit_threads.specs.History.{entries}
use Rattle.circuit_serve.proofs.ByLabels.{only_none, only_made, longer_own}
use Rattle.circuit_threads.specs.Sharing.{first_router}
use Rattle.circuit_serve.specs.Walks.{IsMarked}
use Rattle.circuit_serve.proofs.Running.{second_ends, second_done, is_marked}
use Rattle.circuit_serve.proofs.ticking.tick.Goals as goal

pub loop-init : goal.loop-init
loop-init g c = (c.requires.lock.0, omega arith, ap (λ z. length z) c.requires.fresh, refl, c.requires.calm, ([], only_none _ _ _ c.requires.fresh, refl, refl, omega arith))

pub loop-preserved : goal.loop-preserved
loop-preserved g c =
    let was = c.loop.invariant in let m = c.submit-next.ensures in let a = c.submit-next.result.1 in let l = label c.args.pass in let es : List JournalEntry = was.5.0 in
    let s = second_done l es a (sym c.fault_of.ensures ∙ c.in_default-fault_of.is) in (
      m.lock,
      omega (arith, was.1, m.turn.0),
      longer_own _ _ _ m.turn.3.1 ∙ omega (arith, was.2),
      m.turn.1 ∙ was.3,
      subst (IsMarked (first_router c.args.shared.now) (seen c.submit-next.result.0)) (sym c.fault_of.ensures ∙ c.in_default-fault_of.is) (is_marked (first_router c.args.shared.now) (seen c.submit-next.result.0) a m.answer),
      (
        es ++ entries (note_of l Second a ∷ []),
        only_made l _ Second a a _ _ _ _ es c.loop.pass.below was.3 refl m.turn.3 m.seen was.5.1,
        omega (arith, s.0, was.5.2),
        omega (arith, s.1, was.5.3),
        omega (arith, was.5.4, c.in-Second.ensures.0),
      ),
    )

pub returns-in-Some-clause-ticked : goal.returns-in-Some-clause-ticked
returns-in-Some-clause-ticked g c =
    let was = c.loop.invariant in let m = c.submit-next.ensures in let a = c.submit-next.result.1 in let l = label c.args.pass in let es : List JournalEntry = was.5.0 in (
      es ++ entries (note_of l Second a ∷ []),
      only_made l _ Second a a _ _ _ _ es c.loop.pass.below was.3 refl m.turn.3 m.seen was.5.1,
      (second_ends l es a (was.5.2 ∙ sym was.5.3), λ none. absurd (cc none)),
    )
