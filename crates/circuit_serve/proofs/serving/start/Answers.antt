use Rattle.std.proofs.Common.{◌≡◌, ◌+◌, ◌-◌, ◌*◌, ◌<◌, ◌≤◌, ℕ, suc, [], length, slice_get, Some, None, refl, sym, ◌∙◌, ap, subst, arith}
use Rattle.std.specs.Option.{ForSome}
use Rattle.turn_lock.specs.Passes.{turns_left, own, seen}
use Rattle.circuit_threads.specs.Sharing.{first_router, IsPassOf}
use Rattle.daemon_edge.specs.declared.spawning.Started.TheVariants as started
use Rattle.circuit_serve.specs.declared.job.Task.TheVariants.{Ticker}
use Rattle.circuit_serve.specs.Walks.{IsCalm}
use Rattle.circuit_serve.specs.Jobs.{IsReady, JobRan, KeepsOpening, IsOpened}
use Rattle.circuit_serve.specs.Ends.{IsNew, IsRun}
use Rattle.circuit_serve.specs.Served.{TickerRan, circuit_turns}
use Rattle.circuit_serve.proofs.Gathered.{some_same, places_more}
use Rattle.circuit_serve.proofs.Afterwards.{ready_new, circuit_after, circuit_before, ticker_after, ticker_before, opened_after}
use Rattle.circuit_serve.proofs.Places.{if_some_map, places_or, or_places, each_place, refused_so, after_places, suc_longer}
use Rattle.circuit_serve.proofs.serving.start.Goals as goal

pub run_all-requires-after_bounds : goal.run_all-requires-after_bounds
run_all-requires-after_bounds g c κs within =
    let given = g.P.Port.given in let offered = g.P.Port.offered in let asked = g.P.Port.asked in let count = g.T.Pacer.given in let ended = g.T.Pacer.ended in
    let list = c.add_jobs-rest.result.1.items in let items = c.put-jobs.result.items in let rest = c.add_jobs-rest.result.0 in let a = c.add_jobs-rest.ensures in
    let turns : ℕ = c.args.turns in let s = c.args.shared.now in let n : ℕ = length c.args.ports.items in
    let twice : 10 * turns + 10 * turns ≡ 20 * turns = omega arith in
    let same : n * (10 * turns + 10 * turns) ≡ n * (20 * turns) = ap (λ z. n * z) twice in
    let left : turns ≤ turns_left rest = omega (arith, a.left, same, c.requires.left) in
    let calm : IsCalm (first_router s) (seen rest) = subst (IsCalm (first_router s)) (sym (a.seen ∙ c.requires.first.3)) refl in
    λ k d l. places_or items
    (λ i w. ForSome w.pass (λ p. IsPassOf w.shared.now p × (own p ≡ []) × IsReady given offered asked count ended (first_router w.shared.now) w.task w.turns p × IsCalm (first_router w.shared.now) (seen p)))
    (places_more list items _ (λ i w. ForSome w.pass (λ p. IsPassOf w.shared.now p × (own p ≡ []) × IsReady given offered asked count ended (first_router w.shared.now) w.task w.turns p × IsCalm (first_router w.shared.now) (seen p))) c.put-jobs.ensures.items
    (λ i. if_some_map (slice_get list i) _ _ (λ w h. ready_new given offered asked count ended s (10 * turns) (c.args.pacer ≡ c.args.pacer) w.shared.now w.turns (i + 1) w.task w.pass w.end h.0 h.1 h.2) (a.jobs i))
    (λ x at. subst (λ z. IsPassOf s z × (own z ≡ []) × (turns ≤ turns_left z) × IsCalm (first_router s) (seen z)) (some_same rest x at) (a.lock.0, a.lock.2, left, calm)))
    k d l

pub returns-clause-jobs : goal.returns-clause-jobs
returns-clause-jobs g c =
    let given = g.P.Port.given in let offered = g.P.Port.offered in let asked = g.P.Port.asked in let count = g.T.Pacer.given in let ended = g.T.Pacer.ended in
    let list = c.add_jobs-rest.result.1.items in let items = c.put-jobs.result.items in let ws = c.run_all.result.0.items in let st = c.run_all.result.1 in let a = c.add_jobs-rest.ensures in
    let turns : ℕ = c.args.turns in let s = c.args.shared.now in let takes : ℕ = 10 * turns in
    let each = each_place items ws
    (λ w v. KeepsOpening g.P.Port.opening w.task v.task × ForSome w.pass (λ p. JobRan g.P.Port.given g.P.Port.offered g.P.Port.asked g.T.Pacer.given g.T.Pacer.ended w.shared.now w.turns w.task p v.task v.pass v.end)) _ _ _ _ st c.run_all.ensures in
    let longer : length items ≡ suc (length list) = suc_longer list items _ c.put-jobs.ensures.items in
    let size : length ws ≡ suc (length list) = each.0 ∙ longer in
    after_places items ws
    (λ w v. KeepsOpening g.P.Port.opening w.task v.task × ForSome w.pass (λ p. JobRan g.P.Port.given g.P.Port.offered g.P.Port.asked g.T.Pacer.given g.T.Pacer.ended w.shared.now w.turns w.task p v.task v.pass v.end))
    (¬ (st ≡ started.All)) (λ i w. i < length list → IsNew given offered asked s takes (i + 1) w.task w.pass w.end × (w.turns ≡ takes) × (w.shared.now ≡ s))
    (λ i v. i + 1 < length ws → IsRun given offered asked s takes (i + 1) (st ≡ started.All) v.task v.pass v.end) each
    (places_more list items _ (λ i w. i < length list → IsNew given offered asked s takes (i + 1) w.task w.pass w.end × (w.turns ≡ takes) × (w.shared.now ≡ s)) c.put-jobs.ensures.items
    (λ i. if_some_map (slice_get list i) _ _ (λ w h l. h) (a.jobs i)) (λ l. absurd (omega (arith, l))))
    (λ i w w' h works l.
    let now = h (omega (arith, l, size)) in
    circuit_after given offered asked count ended s takes (st ≡ started.All) (i + 1) w.task w'.task w.pass w'.pass w.end w'.end now.0
    (λ p at. subst (λ (z : ℕ). JobRan given offered asked count ended s z w.task p w'.task w'.pass w'.end) now.1 (subst (λ z. JobRan given offered asked count ended z w.turns w.task p w'.task w'.pass w'.end) now.2 (works.1 p at))))
    (λ i w h not l. circuit_before given offered asked count ended s takes (st ≡ started.All) (i + 1) w.task w.pass w.end (h (omega (arith, l, size))).0 not)

pub returns-clause-ticker : goal.returns-clause-ticker
returns-clause-ticker g c =
    let given = g.P.Port.given in let offered = g.P.Port.offered in let asked = g.P.Port.asked in let count = g.T.Pacer.given in let ended = g.T.Pacer.ended in
    let list = c.add_jobs-rest.result.1.items in let items = c.put-jobs.result.items in let ws = c.run_all.result.0.items in let st = c.run_all.result.1 in let a = c.add_jobs-rest.ensures in
    let turns : ℕ = c.args.turns in let s = c.args.shared.now in let rest = c.add_jobs-rest.result.0 in let pacer = c.args.pacer in
    let each = each_place items ws
    (λ w v. KeepsOpening g.P.Port.opening w.task v.task × ForSome w.pass (λ p. JobRan g.P.Port.given g.P.Port.offered g.P.Port.asked g.T.Pacer.given g.T.Pacer.ended w.shared.now w.turns w.task p v.task v.pass v.end)) _ _ _ _ st c.run_all.ensures in
    let longer : length items ≡ suc (length list) = suc_longer list items _ c.put-jobs.ensures.items in
    let size : length ws ≡ suc (length list) = each.0 ∙ longer in
    let share : ℕ = turns_left c.args.pass - length c.args.ports.items * (circuit_turns turns + circuit_turns turns) in
    let left : turns_left rest ≡ share = omega (arith, a.left) in
    let calm : IsCalm (first_router s) (seen rest) = subst (IsCalm (first_router s)) (sym (a.seen ∙ c.requires.first.3)) refl in
    after_places items ws
    (λ w v. KeepsOpening g.P.Port.opening w.task v.task × ForSome w.pass (λ p. JobRan g.P.Port.given g.P.Port.offered g.P.Port.asked g.T.Pacer.given g.T.Pacer.ended w.shared.now w.turns w.task p v.task v.pass v.end))
    (¬ (st ≡ started.All)) (λ i w. i ≡ length list → (w.task ≡ Ticker pacer) × (w.pass ≡ Some rest) × (w.end ≡ None) × (w.turns ≡ turns) × (w.shared.now ≡ s))
    (λ i v. i + 1 ≡ length ws → TickerRan count ended s share (count pacer) turns (st ≡ started.All) v.task v.pass v.end) each
    (places_more list items _ (λ i w. i ≡ length list → (w.task ≡ Ticker pacer) × (w.pass ≡ Some rest) × (w.end ≡ None) × (w.turns ≡ turns) × (w.shared.now ≡ s)) c.put-jobs.ensures.items
    (or_places list _ (λ k d l e. absurd (omega (arith, l, e)))) (λ e. (refl, refl, refl, refl, refl)))
    (λ i w w' h works l.
    let now = h (omega (arith, l, size)) in
    ticker_after given offered asked count ended s turns (st ≡ started.All) share pacer w'.task rest w'.pass w'.end a.lock.1 left
    (subst (λ z. JobRan given offered asked count ended s turns z rest w'.task w'.pass w'.end) now.0
    (subst (λ (z : ℕ). JobRan given offered asked count ended s z w.task rest w'.task w'.pass w'.end) now.3 (subst (λ z. JobRan given offered asked count ended z w.turns w.task rest w'.task w'.pass w'.end) now.4 (works.1 rest now.1)))))
    (λ i w h not l.
    let now = h (omega (arith, l, size)) in
    subst (λ z. TickerRan count ended s share (count pacer) turns (st ≡ started.All) z w.pass w.end) (sym now.0)
    (subst (λ z. TickerRan {P = g.row.P.Denot} count ended s share (count pacer) turns (st ≡ started.All) (Ticker pacer) z w.end) (sym now.1)
    (subst (λ z. TickerRan {P = g.row.P.Denot} count ended s share (count pacer) turns (st ≡ started.All) (Ticker pacer) (Some rest) z) (sym now.2)
    (ticker_before given offered asked count ended s turns (st ≡ started.All) share pacer rest a.lock.0 a.lock.1 a.lock.2 left calm not))))

pub returns-clause-opened : goal.returns-clause-opened
returns-clause-opened g c = λ opens all.
    let list = c.add_jobs-rest.result.1.items in let items = c.put-jobs.result.items in let ws = c.run_all.result.0.items in let st = c.run_all.result.1 in
    let each = each_place items ws
    (λ w v. KeepsOpening g.P.Port.opening w.task v.task × ForSome w.pass (λ p. JobRan g.P.Port.given g.P.Port.offered g.P.Port.asked g.T.Pacer.given g.T.Pacer.ended w.shared.now w.turns w.task p v.task v.pass v.end)) _ _ _ _ st c.run_all.ensures in
    let longer : length items ≡ suc (length list) = suc_longer list items _ c.put-jobs.ensures.items in
    let size : length ws ≡ suc (length list) = each.0 ∙ longer in
    after_places items ws
    (λ w v. KeepsOpening g.P.Port.opening w.task v.task × ForSome w.pass (λ p. JobRan g.P.Port.given g.P.Port.offered g.P.Port.asked g.T.Pacer.given g.T.Pacer.ended w.shared.now w.turns w.task p v.task v.pass v.end))
    (¬ (st ≡ started.All)) (λ i w. i < length list → IsOpened g.P.Port.opening (opens i) w.task) (λ i v. i + 1 < length ws → IsOpened g.P.Port.opening (opens i) v.task) each
    (places_more list items _ (λ i w. i < length list → IsOpened g.P.Port.opening (opens i) w.task) c.put-jobs.ensures.items
    (λ i. if_some_map (slice_get list i) _ _ (λ w h l. h) (c.add_jobs-rest.ensures.opened opens all i)) (λ l. absurd (omega (arith, l))))
    (λ i w w' h works l. opened_after g.P.Port.opening (opens i) w.task w'.task works.0 (h (omega (arith, l, size))))
    (λ i w h not l. h (omega (arith, l, size)))

pub returns-clause-answers : goal.returns-clause-answers
returns-clause-answers g c =
    refused_so
    (λ w v. KeepsOpening g.P.Port.opening w.task v.task × ForSome w.pass (λ p. JobRan g.P.Port.given g.P.Port.offered g.P.Port.asked g.T.Pacer.given g.T.Pacer.ended w.shared.now w.turns w.task p v.task v.pass v.end)) _ _ _ _ c.put-jobs.result.items c.run_all.result.0.items _
    c.run_all.ensures
