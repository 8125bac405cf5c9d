use Rattle.std.proofs.Common.{◌+◌, [], ◌∷◌, ◌++◌, sym, refl, subst}
use Rattle.turn_lock.specs.Passes.{seen}
use Rattle.router_core.specs.declared.event.NodeEvent.TheVariants.{Pull}
use Rattle.circuit_threads.specs.Answered.{note_of}
use Rattle.circuit_threads.specs.History.{entries}
use Rattle.circuit_threads.specs.Sharing.{first_router}
use Rattle.circuit_serve.specs.Walks.{Pulled, IsMarked}
use Rattle.circuit_serve.proofs.ByLabels.{only_made}
use Rattle.circuit_serve.proofs.Running.{pull_ends, is_marked}
use Rattle.circuit_serve.proofs.working.pull.Goals as goal

pub returns-clause-ran : goal.returns-clause-ran
returns-clause-ran g c = λ es n waits only was.
    let k = c.args.circuit in let a = c.make-pass.result.1 in
    let m = c.make-pass.ensures in let p = c.args.port.now in let q = c.make-pass.new.port in
    let given = g.P.Port.given in let offered = g.P.Port.offered in (
      es ++ entries (note_of k (Pull k) a ∷ []),
      only_made k _ (Pull k) a a _ _ _ _ es c.args.pass.below c.requires.lock.1 refl m.turn.3 m.seen only,
      subst (Pulled k (es ++ entries (note_of k (Pull k) a ∷ [])) (given q) (offered q) (n + 1)) (sym c.fault_of.ensures)
          (pull_ends k es (given p) (offered p) (given q) (offered q) n waits m.given a was m.offered),
    )

pub returns-clause-marked : goal.returns-clause-marked
returns-clause-marked g c = let a = c.make-pass.result.1 in let s = seen c.make-pass.result.0 in
    subst (IsMarked (first_router c.args.shared.now) s) (sym c.fault_of.ensures) (is_marked (first_router c.args.shared.now) s a c.make-pass.ensures.answer)
