use Rattle.std.proofs.Common.{rules, ◌≡◌, ℕ, suc, ◌+◌, ◌*◌, ◌<◌, [], ◌∷◌, ◌++◌, length, slice_get, Some, IfSome, sym, ◌∙◌, refl, ap, subst, arith, length-append, append_assoc}
use native.Mathlib.Nat.{zero-mul, suc-mul}
use Rattle.daemon_edge.specs.declared.spawning.Started.TheVariants as started
use Rattle.circuit_serve.specs.declared.end.ServeEnd.TheVariants.{Done}
use Rattle.turn_lock.specs.Passes.{turns_left, label, own, seen}
use Rattle.circuit_serve.specs.Labels.{by_label}
use Rattle.circuit_serve.specs.Ends.{IsRun}
use Rattle.circuit_serve.proofs.Gathered.{get_last, if_some_at, gathers_none, places_more}
use Rattle.circuit_serve.proofs.Places.{all_taken}
use Rattle.circuit_serve.proofs.gathering.gather.Goals as goal

pub loop-job-init : goal.loop-job-init
loop-job-init g c =
    let k : ℕ = c.args.turns + c.args.turns in let zero_times : 0 * k ≡ 0 = zero-mul k in (
      (c.requires.lock, refl {a = label c.args.pass}),
      omega (arith, zero_times),
      refl {a = by_label 0 (own c.args.pass) (seen c.args.pass)},
      ap (λ z. length z) c.requires.room.0,
      c.requires.room.1,
      gathers_none g.P.Port.given g.P.Port.offered g.P.Port.asked c.args.turns c.args.ports.items c.args.pass (c.args.end ≡ Done) c.requires.room.0 c.requires.only,
      c.requires.end,
      (λ d. d),
      (λ d. d, λ d. d),
      (λ opens all i. subst (λ z. IfSome (slice_get z i) (λ p. g.P.Port.opening p ≡ opens i)) (sym c.requires.room.0) tt),
      (λ none. absurd (omega (arith, none))),
      search rules,
    )

pub gather_one-joined-requires-clause-job : goal.gather_one-joined-requires-clause-job
gather_one-joined-requires-clause-job g c =
    let was = c.loop-job.invariant in let ys = c.loop-job.yielded in let job = c.in-Some.job in let rest = c.next.new.self.rest.items in
    let e : c.loop-job.job-iterator.rest.items ≡ job ∷ rest = c.in-Some.ensures.steps.0 in
    let at : slice_get c.args.jobs.items (length ys) ≡ Some job = ap (λ z. slice_get z (length ys)) (was.11 ∙ ap (λ z. ys ++ z) e) ∙ get_last ys rest job in
    let here = if_some_at _ _ job at (c.requires.jobs (length ys)) in
    subst (λ n. IsRun g.P.Port.given g.P.Port.offered g.P.Port.asked c.args.shared.now c.args.turns (n + 1) (c.args.started ≡ started.All) job.task job.pass job.end) (sym was.3) here

pub loop-job-preserved : goal.loop-job-preserved
loop-job-preserved g c =
    let was = c.loop-job.invariant in let ys = c.loop-job.yielded in let job = c.in-Some.job in let rest = c.next.new.self.rest.items in let o = c.gather_one-joined.ensures in
    let e : c.loop-job.job-iterator.rest.items ≡ job ∷ rest = c.in-Some.ensures.steps.0 in
    let k : ℕ = c.args.turns + c.args.turns in
    let longer : length (ys ++ job ∷ []) ≡ suc (length ys) = omega (arith, length-append ys (job ∷ [])) in
    let more : length (ys ++ job ∷ []) * k ≡ length ys * k + k = ap (λ z. z * k) longer ∙ suc-mul (length ys) k in (
      (o.lock.0, o.lock.1 ∙ was.0.1),
      omega (arith, o.share, was.1, more),
      o.ticker ∙ was.2,
      omega (arith, o.count, was.3, longer),
      omega (arith, o.room, was.4),
      o.gathers,
      o.end,
      (λ d. was.7 (o.done d)),
      (λ d. was.8.0 (o.not_started.0 d), λ e. o.not_started.1 (was.8.1 e)),
      (λ opens all. let at : slice_get c.args.jobs.items (length ys) ≡ Some job = ap (λ z. slice_get z (length ys)) (was.11 ∙ ap (λ z. ys ++ z) e) ∙ get_last ys rest job in
          let here = if_some_at _ _ job at (all (length ys)) in let came = o.opened (opens (length ys)) here in
          places_more c.loop-job.list.items c.gather_one-joined.result.1.items came.0 (λ i p. g.P.Port.opening p ≡ opens i) came.1 (was.9 opens all)
          (subst (λ k. g.P.Port.opening came.0 ≡ opens k) (sym was.3) came.2)),
      (λ some whole k. o.whole whole k),
      was.11 ∙ (ap (λ z. ys ++ z) e ∙ sym (append_assoc ys (job ∷ []) rest)),
    )

pub gather_one-joined-requires-clause-lock : goal.gather_one-joined-requires-clause-lock
gather_one-joined-requires-clause-lock g c = c.loop-job.invariant.0.0

pub gather_one-joined-requires-clause-gathers : goal.gather_one-joined-requires-clause-gathers
gather_one-joined-requires-clause-gathers g c = c.loop-job.invariant.5

pub gather_one-joined-requires-clause-end : goal.gather_one-joined-requires-clause-end
gather_one-joined-requires-clause-end g c = c.loop-job.invariant.6

pub gather_one-joined-requires-clause-all : goal.gather_one-joined-requires-clause-all
gather_one-joined-requires-clause-all g c =
    λ done. c.requires.all (c.loop-job.invariant.7 done)

pub gather_one-joined-requires-clause-room : goal.gather_one-joined-requires-clause-room
gather_one-joined-requires-clause-room g c =
    let was = c.loop-job.invariant in let ys = c.loop-job.yielded in let job = c.in-Some.job in let rest = c.next.new.self.rest.items in
    let e : c.loop-job.job-iterator.rest.items ≡ job ∷ rest = c.in-Some.ensures.steps.0 in
    let all : length c.args.jobs.items ≡ length (ys ++ job ∷ rest) = ap (λ z. length z) (was.11 ∙ ap (λ z. ys ++ z) e) in
    omega (arith, all, length-append ys (job ∷ rest), was.3, was.4, c.args.jobs.ok.0, c.loop-job.list.ok.0)

pub returns-clause-lock : goal.returns-clause-lock
returns-clause-lock g c = c.loop-job.invariant.0

pub returns-clause-ticker : goal.returns-clause-ticker
returns-clause-ticker g c = c.loop-job.invariant.2

pub returns-clause-gathers : goal.returns-clause-gathers
returns-clause-gathers g c = c.loop-job.invariant.5

pub returns-clause-end : goal.returns-clause-end
returns-clause-end g c = c.loop-job.invariant.6

pub returns-clause-done : goal.returns-clause-done
returns-clause-done g c = c.loop-job.invariant.7

pub returns-clause-not_started : goal.returns-clause-not_started
returns-clause-not_started g c = c.loop-job.invariant.8

pub returns-clause-share : goal.returns-clause-share
returns-clause-share g c =
    let was = c.loop-job.invariant in let rest = c.loop-job.job-iterator.rest in
    let all = all_taken c.args.jobs.items c.loop-job.yielded rest.items was.11 (sym rest.ok.0 ∙ c.in-None.ensures.steps.0) in
    let k : ℕ = c.args.turns + c.args.turns in
    was.1 ∙ ap (λ (z : ℕ). (turns_left c.args.pass + length (own c.args.pass)) + z * k) all

pub returns-clause-count : goal.returns-clause-count
returns-clause-count g c =
    let was = c.loop-job.invariant in let rest = c.loop-job.job-iterator.rest in
    let all = all_taken c.args.jobs.items c.loop-job.yielded rest.items was.11 (sym rest.ok.0 ∙ c.in-None.ensures.steps.0) in
    was.3 ∙ all

pub returns-clause-opened : goal.returns-clause-opened
returns-clause-opened g c =
    c.loop-job.invariant.9

pub returns-clause-whole : goal.returns-clause-whole
returns-clause-whole g c =
    let was = c.loop-job.invariant in let rest = c.loop-job.job-iterator.rest in
    let all = all_taken c.args.jobs.items c.loop-job.yielded rest.items was.11 (sym rest.ok.0 ∙ c.in-None.ensures.steps.0) in
    λ some. was.10 (subst (λ (z : ℕ). 0 < z) (sym all) some)
