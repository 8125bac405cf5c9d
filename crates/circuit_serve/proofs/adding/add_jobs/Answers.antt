use Rattle.std.proofs.Common.{rules, ◌≡◌, ℕ, suc, ◌+◌, ◌*◌, ◌<◌, ◌≤◌, [], ◌∷◌, ◌++◌, length, slice_get, Some, IfSome, sym, ◌∙◌, refl, ap, subst, arith, length-append, append_assoc, mul-le-mul_right}
use native.Mathlib.Nat.{zero-mul, suc-mul}
use Rattle.turn_lock.specs.Passes.{turns_left}
use Rattle.circuit_threads.specs.Sharing.{first_router}
use Rattle.circuit_serve.specs.Ends.{IsNew}
use Rattle.circuit_serve.specs.Jobs.{IsOpened}
use Rattle.circuit_serve.specs.Walks.{IsCalm}
use Rattle.circuit_serve.proofs.Gathered.{get_last, get_inside, if_some_at, one_longer, places_more}
use Rattle.circuit_serve.proofs.Places.{all_taken}
use Rattle.circuit_serve.proofs.adding.add_jobs.Goals as goal

pub loop-port-init : goal.loop-port-init
loop-port-init g c =
    let k : ℕ = c.args.turns + c.args.turns in let zero_times : 0 * k ≡ 0 = zero-mul k in let none = c.requires.room.0 in (
      c.requires.lock,
      omega (arith, zero_times),
      refl,
      refl,
      ap (λ z. length z) none,
      omega arith,
      (λ i. subst (λ z. IfSome (slice_get z i) (λ w. IsNew g.P.Port.given g.P.Port.offered g.P.Port.asked c.args.shared.now c.args.turns (i + 1) w.task w.pass w.end × (w.turns ≡ c.args.turns) × (w.shared.now ≡ c.args.shared.now))) (sym none) tt),
      (λ opens all i. subst (λ z. IfSome (slice_get z i) (λ w. IsOpened g.P.Port.opening (opens i) w.task)) (sym none) tt),
      search rules,
    )

pub new_job-rest-requires-clause-lock : goal.new_job-rest-requires-clause-lock
new_job-rest-requires-clause-lock g c =
    let was = c.loop-port.invariant in (was.0.0, was.0.1, omega (arith, was.0.2, was.3), was.0.3)

pub new_job-rest-requires-clause-calm : goal.new_job-rest-requires-clause-calm
new_job-rest-requires-clause-calm g c =
    subst (IsCalm (first_router c.args.shared.now)) (sym c.loop-port.invariant.2) c.requires.calm

pub new_job-rest-requires-clause-turns : goal.new_job-rest-requires-clause-turns
new_job-rest-requires-clause-turns g c = c.requires.turns

pub new_job-rest-requires-clause-left : goal.new_job-rest-requires-clause-left
new_job-rest-requires-clause-left g c =
    let was = c.loop-port.invariant in let ys = c.loop-port.yielded in let port = c.in-Some.port in let rest = c.next.new.self.rest.items in
    let e : c.loop-port.port-iterator.rest.items ≡ port ∷ rest = c.in-Some.ensures.steps.0 in
    let at : slice_get c.args.ports.items (length ys) ≡ Some port = ap (λ z. slice_get z (length ys)) (was.8 ∙ ap (λ z. ys ++ z) e) ∙ get_last ys rest port in
    let inside : length ys < length c.args.ports.items = get_inside c.args.ports.items port (length ys) at in
    let k : ℕ = c.args.turns + c.args.turns in
    let more : suc (length ys) * k ≡ length ys * k + k = suc-mul (length ys) k in
    let less : suc (length ys) * k ≤ length c.args.ports.items * k = mul-le-mul_right k (omega (arith, inside)) in
    omega (arith, more, less, was.1, c.requires.left)

pub new_job-rest-requires-clause-there : goal.new_job-rest-requires-clause-there
new_job-rest-requires-clause-there g c =
    let was = c.loop-port.invariant in let ys = c.loop-port.yielded in let port = c.in-Some.port in let rest = c.next.new.self.rest.items in
    let e : c.loop-port.port-iterator.rest.items ≡ port ∷ rest = c.in-Some.ensures.steps.0 in
    let at : slice_get c.args.ports.items (length ys) ≡ Some port = ap (λ z. slice_get z (length ys)) (was.8 ∙ ap (λ z. ys ++ z) e) ∙ get_last ys rest port in
    let inside : length ys < length c.args.ports.items = get_inside c.args.ports.items port (length ys) at in
    (omega arith, omega (arith, inside, was.3, c.requires.there.0))

pub new_job-rest-requires-clause-fresh : goal.new_job-rest-requires-clause-fresh
new_job-rest-requires-clause-fresh g c =
    let was = c.loop-port.invariant in let ys = c.loop-port.yielded in let port = c.in-Some.port in let rest = c.next.new.self.rest.items in
    let e : c.loop-port.port-iterator.rest.items ≡ port ∷ rest = c.in-Some.ensures.steps.0 in
    let at : slice_get c.args.ports.items (length ys) ≡ Some port = ap (λ z. slice_get z (length ys)) (was.8 ∙ ap (λ z. ys ++ z) e) ∙ get_last ys rest port in
    if_some_at _ _ port at (c.requires.fresh (length ys))

pub put-list-requires : goal.put-list-requires
put-list-requires g c =
    let was = c.loop-port.invariant in let ys = c.loop-port.yielded in let port = c.in-Some.port in let rest = c.next.new.self.rest.items in
    let e : c.loop-port.port-iterator.rest.items ≡ port ∷ rest = c.in-Some.ensures.steps.0 in
    let all : length c.args.ports.items ≡ length (ys ++ port ∷ rest) = ap (λ z. length z) (was.8 ∙ ap (λ z. ys ++ z) e) in
    omega (arith, all, length-append ys (port ∷ rest), was.4, was.5, c.requires.room.1, c.args.ports.ok.0, c.loop-port.list.ok.0)

pub loop-port-preserved : goal.loop-port-preserved
loop-port-preserved g c =
    let was = c.loop-port.invariant in let ys = c.loop-port.yielded in let port = c.in-Some.port in let rest = c.next.new.self.rest.items in
    let j = c.new_job-rest.ensures in let job = c.new_job-rest.result.1 in let k : ℕ = c.args.turns + c.args.turns in let n : ℕ = length ys in
    let e : c.loop-port.port-iterator.rest.items ≡ port ∷ rest = c.in-Some.ensures.steps.0 in
    let at : slice_get c.args.ports.items n ≡ Some port = ap (λ z. slice_get z n) (was.8 ∙ ap (λ z. ys ++ z) e) ∙ get_last ys rest port in
    let longer : length (ys ++ port ∷ []) ≡ suc n = omega (arith, length-append ys (port ∷ [])) in
    let more : length (ys ++ port ∷ []) * k ≡ n * k + k = ap (λ z. z * k) longer ∙ suc-mul n k in
    let count : length c.loop-port.list.items ≡ n = was.4 in
    let number : c.loop-port.circuit + 1 ≡ length c.loop-port.list.items + 1 = omega (arith, was.3, count) in (
      (j.lock.0, j.lock.1, omega (arith, j.lock.2, was.3, longer), j.lock.3),
      omega (arith, j.left, was.1, more),
      j.seen ∙ was.2,
      omega (arith, was.3, longer),
      one_longer c.loop-port.list.items c.put-list.result.items (length (ys ++ port ∷ [])) _ c.put-list.ensures.items (omega (arith, was.4, longer)),
      omega (arith, was.5, c.put-list.ensures.capacity),
      places_more c.loop-port.list.items c.put-list.result.items job
          (λ i w. IsNew g.P.Port.given g.P.Port.offered g.P.Port.asked c.args.shared.now c.args.turns (i + 1) w.task w.pass w.end × (w.turns ≡ c.args.turns) × (w.shared.now ≡ c.args.shared.now)) c.put-list.ensures.items was.6
          (subst (λ (d : ℕ). IsNew g.P.Port.given g.P.Port.offered g.P.Port.asked c.args.shared.now c.args.turns d job.task job.pass job.end) number j.job.0, j.job.1, j.job.2),
      (λ opens all. let here = if_some_at _ _ port at (all n) in
          places_more c.loop-port.list.items c.put-list.result.items job (λ i w. IsOpened g.P.Port.opening (opens i) w.task) c.put-list.ensures.items (was.7 opens all)
          (subst (λ (i : ℕ). IsOpened g.P.Port.opening (opens i) job.task) (sym count) (subst (λ o. IsOpened g.P.Port.opening o job.task) here j.opened))),
      was.8 ∙ (ap (λ z. ys ++ z) e ∙ sym (append_assoc ys (port ∷ []) rest)),
    )

pub returns-clause-lock : goal.returns-clause-lock
returns-clause-lock g c = let was = c.loop-port.invariant in (was.0.0, was.0.1, was.0.3)

pub returns-clause-left : goal.returns-clause-left
returns-clause-left g c =
    let was = c.loop-port.invariant in let rest = c.loop-port.port-iterator.rest in
    let all = all_taken c.args.ports.items c.loop-port.yielded rest.items was.8 (sym rest.ok.0 ∙ c.in-None.ensures.steps.0) in
    let k : ℕ = c.args.turns + c.args.turns in
    subst (λ (z : ℕ). turns_left c.loop-port.pass + z * k ≡ turns_left c.args.pass) all was.1

pub returns-clause-seen : goal.returns-clause-seen
returns-clause-seen g c = c.loop-port.invariant.2

pub returns-clause-jobs : goal.returns-clause-jobs
returns-clause-jobs g c = c.loop-port.invariant.6

pub returns-clause-opened : goal.returns-clause-opened
returns-clause-opened g c = c.loop-port.invariant.7

pub returns-clause-count : goal.returns-clause-count
returns-clause-count g c =
    let was = c.loop-port.invariant in let rest = c.loop-port.port-iterator.rest in
    was.4 ∙ all_taken c.args.ports.items c.loop-port.yielded rest.items was.8 (sym rest.ok.0 ∙ c.in-None.ensures.steps.0)

pub returns-clause-room : goal.returns-clause-room
returns-clause-room g c = c.loop-port.invariant.5
