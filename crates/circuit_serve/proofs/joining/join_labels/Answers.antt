use Rattle.std.proofs.Common.{◌≡◌, ◌+◌, ◌<◌, List, length, sym, ◌∙◌, ap, subst, arith, length-append, ⊎_elim}
use mathlib.Core.List.{IsPrefix}
use Rattle.turn_lock.specs.Passes.{own, seen}
use Rattle.turn_lock.specs.Views.{times, once_below}
use Rattle.turn_lock.proofs.Sums.{below_tells}
use Rattle.circuit_threads.specs.declared.entry.Note.{Note}
use Rattle.circuit_serve.specs.Labels.{of_label}
use Rattle.circuit_serve.proofs.Picks.{both_begin}
use Rattle.circuit_serve.proofs.Joins.{by_first, by_second, picked_all}
use Rattle.model_router.specs.Routers.{Router}
use Rattle.circuit_threads.specs.Sharing.{first_router}
use Rattle.circuit_serve.specs.Walks.{IsCalm}
use Rattle.circuit_serve.proofs.Stops.{keeps_stop, either_longer}
use Rattle.circuit_serve.proofs.joining.join_labels.Goals as goal

pub returns-clause-turns : goal.returns-clause-turns
returns-clause-turns g c = let j = c.join.ensures.both in
    let e : length (own c.join.result) ≡ length (own c.args.first) + length (own c.args.second) = ap (λ z. length z) j.3 ∙ omega (arith, length-append (own c.args.first) (own c.args.second)) in
    omega (arith, e, j.0)

pub returns-clause-stops : goal.returns-clause-stops
returns-clause-stops g c = let j = c.join.ensures.both in let r : Router = first_router c.args.shared.now in
    let b : IsPrefix (seen c.args.first) (seen c.join.result) × IsPrefix (seen c.args.second) (seen c.join.result) = both_begin _ _ (seen c.join.result) j.4 j.5 in
    (keeps_stop r (seen c.args.first) (seen c.join.result) b.0, keeps_stop r (seen c.args.second) (seen c.join.result) b.1)

pub returns-clause-first : goal.returns-clause-first
returns-clause-first g c = let j = c.join.ensures.both in let b : IsPrefix (seen c.args.first) (seen c.join.result) × IsPrefix (seen c.args.second) (seen c.join.result) = both_begin _ _ (seen c.join.result) j.4 j.5 in
    by_first (own c.args.first) (own c.args.second) (own c.join.result) (seen c.args.first) (seen c.args.second) (seen c.join.result) j.3 b.0 b.1 c.args.first.below c.args.second.below

pub returns-clause-second : goal.returns-clause-second
returns-clause-second g c = let j = c.join.ensures.both in let b : IsPrefix (seen c.args.first) (seen c.join.result) × IsPrefix (seen c.args.second) (seen c.join.result) = both_begin _ _ (seen c.join.result) j.4 j.5 in
    by_second (own c.args.first) (own c.args.second) (own c.join.result) (seen c.args.first) (seen c.args.second) (seen c.join.result) j.3 b.0 b.1 c.args.first.below c.args.second.below

pub returns-clause-whole : goal.returns-clause-whole
returns-clause-whole g c = λ whole k.
    let owns = c.join.ensures.whole whole in let K : List Note = seen c.join.result in
    sym (ap (of_label k) (picked_all 0 (own c.join.result) K (λ i l.
    let one : times i (own c.join.result) ≡ once_below i (length K) = owns.1 i in
    let at : 0 < times i (own c.join.result) = ⊎_elim (λ (t : (once_below i (length K) ≡ 1) × (i < length K)). omega (arith, t.0, one)) (λ (t : (once_below i (length K) ≡ 0) × (Rattle.std.specs.Prelude.◌≤◌ (length K) i)). absurd (omega (arith, t.1, l))) (below_tells i (length K)) in
    let e : i ≡ 0 + i = omega arith in subst (λ z. 0 < times z (own c.join.result)) e at)))

pub returns-clause-calm : goal.returns-clause-calm
returns-clause-calm g c = λ one two. let j = c.join.ensures.both in
    ⊎_elim (λ is. subst (IsCalm (first_router c.args.shared.now)) (sym (j.4 ∙ is)) one) (λ is. subst (IsCalm (first_router c.args.shared.now)) (sym (j.4 ∙ is)) two)
    (either_longer (seen c.args.first) (seen c.args.second))
