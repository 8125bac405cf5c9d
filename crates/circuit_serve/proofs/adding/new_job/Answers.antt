use Rattle.std.proofs.Common.{◌≡◌, ℕ, ◌+◌, sym, ◌∙◌, refl, ap, subst, arith}
use Rattle.turn_lock.specs.Steps.{label_of_split}
use Rattle.turn_lock.specs.Passes.{label, splits}
use Rattle.circuit_threads.specs.Sharing.{first_router}
use Rattle.circuit_serve.specs.Walks.{IsCalm}
use Rattle.circuit_serve.proofs.adding.new_job.Goals as goal

pub returns-clause-lock : goal.returns-clause-lock
returns-clause-lock g c =
    let s = c.split-rest.ensures in let was = c.requires.lock in
    (s.locks.0, s.first.1 ∙ was.1, s.first.2 ∙ was.2, s.first.3 ∙ was.3)

pub returns-clause-left : goal.returns-clause-left
returns-clause-left g c = c.split-rest.ensures.first.0

pub returns-clause-seen : goal.returns-clause-seen
returns-clause-seen g c = c.split-rest.ensures.first.4

pub returns-clause-job : goal.returns-clause-job
returns-clause-job g c =
    let s = c.split-rest.ensures in let was = c.requires.lock in let its = c.split-rest.result.1 in
    let named : label its ≡ c.args.circuit = s.second.1 ∙ ((λ i. label_of_split (was.1 i) (splits c.args.pass)) ∙ was.2) in
    let calm = subst (IsCalm (first_router c.args.shared.now)) (sym s.second.4) c.requires.calm in
    ((refl, refl, c.requires.there, c.requires.fresh, (its, refl, s.locks.1, named, s.second.3, s.second.0, calm)), refl, refl)

pub returns-clause-opened : goal.returns-clause-opened
returns-clause-opened g c = refl
