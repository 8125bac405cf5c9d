use Rattle.std.proofs.Common.{◌⊎◌, ◌≡◌, true, ℕ, suc, ◌+◌, ◌*◌, ◌<◌, [], ◌∷◌, ◌++◌, length, sym, ◌∙◌, ap, subst, arith}
use native.Mathlib.Nat.{suc-mul}
use Rattle.turn_lock.specs.Passes.{seen}
use Rattle.circuit_threads.specs.Sharing.{first_router}
use Rattle.daemon_edge.specs.declared.spawning.Started.{Started}
use Rattle.daemon_edge.specs.declared.spawning.Started.TheVariants as started
use Rattle.circuit_serve.specs.Walks.{seconds}
use Rattle.circuit_serve.specs.Jobs.{IsOpened}
use Rattle.circuit_serve.specs.Ends.{end_of, end_of_start, first_end, IsEnd, IsRun}
use Rattle.circuit_serve.specs.Served.{TickerRan, circuit_turns}
use Rattle.circuit_serve.proofs.Gathered.{both_done, not_started}
use Rattle.circuit_serve.proofs.Afterwards.{ticker_there, ticker_taken, started_all, started_refused, end_started}
use Rattle.circuit_serve.proofs.Places.{item_last, items_before, suc_longer}
use Rattle.circuit_serve.proofs.serving.finish.Goals as goal

pub open_ticker-pass-requires-clause-ticker : goal.open_ticker-pass-requires-clause-ticker
open_ticker-pass-requires-clause-ticker g c =
    let xs = c.split_last-jobs.result.0.items in let t = c.split_last-jobs.result.1 in let js = c.args.jobs.items in let All = c.args.started ≡ started.All in
    let split : js ≡ xs ++ t ∷ [] = c.split_last-jobs.ensures in
    let ran = item_last xs js t (λ v. TickerRan g.T.Pacer.given g.T.Pacer.ended c.args.shared.now c.requires.ticker.0 c.requires.ticker.1 c.args.turns All v.task v.pass v.end) split c.requires.ticker.2 in
    (ticker_there g.P.Port.given g.P.Port.offered g.P.Port.asked g.T.Pacer.given g.T.Pacer.ended c.args.shared.now c.args.turns All c.requires.ticker.0 c.requires.ticker.1 t.task t.pass t.end ran).0

pub open_ticker-pass-requires-clause-some : goal.open_ticker-pass-requires-clause-some
open_ticker-pass-requires-clause-some g c =
    let xs = c.split_last-jobs.result.0.items in let t = c.split_last-jobs.result.1 in let js = c.args.jobs.items in let All = c.args.started ≡ started.All in
    let split : js ≡ xs ++ t ∷ [] = c.split_last-jobs.ensures in
    let ran = item_last xs js t (λ v. TickerRan g.T.Pacer.given g.T.Pacer.ended c.args.shared.now c.requires.ticker.0 c.requires.ticker.1 c.args.turns All v.task v.pass v.end) split c.requires.ticker.2 in
    (ticker_there g.P.Port.given g.P.Port.offered g.P.Port.asked g.T.Pacer.given g.T.Pacer.ended c.args.shared.now c.args.turns All c.requires.ticker.0 c.requires.ticker.1 t.task t.pass t.end ran).1

pub gather-pass-requires-clause-lock : goal.gather-pass-requires-clause-lock
gather-pass-requires-clause-lock g c =
    let xs = c.split_last-jobs.result.0.items in let t = c.split_last-jobs.result.1 in let js = c.args.jobs.items in let All = c.args.started ≡ started.All in
    let split : js ≡ xs ++ t ∷ [] = c.split_last-jobs.ensures in
    let ran = item_last xs js t (λ v. TickerRan g.T.Pacer.given g.T.Pacer.ended c.args.shared.now c.requires.ticker.0 c.requires.ticker.1 c.args.turns All v.task v.pass v.end) split c.requires.ticker.2 in
    let o = c.open_ticker-pass.ensures in
    let told = ticker_taken g.P.Port.given g.P.Port.offered g.P.Port.asked g.T.Pacer.given g.T.Pacer.ended c.args.shared.now c.args.turns All c.requires.ticker.0 c.requires.ticker.1 t.task t.pass t.end c.open_ticker-pass.result.1 c.open_ticker-pass.result.0 o.task o.pass ran in
    told.0.0

pub gather-pass-requires-clause-jobs : goal.gather-pass-requires-clause-jobs
gather-pass-requires-clause-jobs g c =
    let xs = c.split_last-jobs.result.0.items in let t = c.split_last-jobs.result.1 in let js = c.args.jobs.items in let All = c.args.started ≡ started.All in
    items_before xs js t (λ i v. IsRun g.P.Port.given g.P.Port.offered g.P.Port.asked c.args.shared.now (circuit_turns c.args.turns) (i + 1) All v.task v.pass v.end) c.split_last-jobs.ensures c.requires.jobs

pub gather-pass-requires-clause-only : goal.gather-pass-requires-clause-only
gather-pass-requires-clause-only g c =
    let xs = c.split_last-jobs.result.0.items in let t = c.split_last-jobs.result.1 in let js = c.args.jobs.items in let All = c.args.started ≡ started.All in
    let split : js ≡ xs ++ t ∷ [] = c.split_last-jobs.ensures in
    let ran = item_last xs js t (λ v. TickerRan g.T.Pacer.given g.T.Pacer.ended c.args.shared.now c.requires.ticker.0 c.requires.ticker.1 c.args.turns All v.task v.pass v.end) split c.requires.ticker.2 in
    let o = c.open_ticker-pass.ensures in
    let told = ticker_taken g.P.Port.given g.P.Port.offered g.P.Port.asked g.T.Pacer.given g.T.Pacer.ended c.args.shared.now c.args.turns All c.requires.ticker.0 c.requires.ticker.1 t.task t.pass t.end c.open_ticker-pass.result.1 c.open_ticker-pass.result.0 o.task o.pass ran in
    told.3

pub gather-pass-requires-clause-end : goal.gather-pass-requires-clause-end
gather-pass-requires-clause-end g c =
    let xs = c.split_last-jobs.result.0.items in let t = c.split_last-jobs.result.1 in let js = c.args.jobs.items in let All = c.args.started ≡ started.All in
    let split : js ≡ xs ++ t ∷ [] = c.split_last-jobs.ensures in
    let ran = item_last xs js t (λ v. TickerRan g.T.Pacer.given g.T.Pacer.ended c.args.shared.now c.requires.ticker.0 c.requires.ticker.1 c.args.turns All v.task v.pass v.end) split c.requires.ticker.2 in
    let o = c.open_ticker-pass.ensures in
    let told = ticker_taken g.P.Port.given g.P.Port.offered g.P.Port.asked g.T.Pacer.given g.T.Pacer.ended c.args.shared.now c.args.turns All c.requires.ticker.0 c.requires.ticker.1 t.task t.pass t.end c.open_ticker-pass.result.1 c.open_ticker-pass.result.0 o.task o.pass ran in
    let ends : c.first_end-end.result ≡ first_end (end_of_start c.args.started) (end_of t.end) = c.first_end-end.ensures ∙ ap (λ a. first_end a c.end_of.result) c.end_of_start.ensures ∙ ap (λ b. first_end (end_of_start c.args.started) b) (c.end_of.ensures ∙ ap end_of (sym c.open_ticker-pass.ensures.end)) in
    let p = c.open_ticker-pass.result.0 in
    subst (λ e. IsEnd (first_router c.args.shared.now) (seen p) e) (sym ends) (end_started (first_router c.args.shared.now) (seen p) c.args.started (end_of t.end) told.2)

pub gather-pass-requires-clause-all : goal.gather-pass-requires-clause-all
gather-pass-requires-clause-all g c =
    let t = c.split_last-jobs.result.1 in
    let ends : c.first_end-end.result ≡ first_end (end_of_start c.args.started) (end_of t.end) = c.first_end-end.ensures ∙ ap (λ a. first_end a c.end_of.result) c.end_of_start.ensures ∙ ap (λ b. first_end (end_of_start c.args.started) b) (c.end_of.ensures ∙ ap end_of (sym c.open_ticker-pass.ensures.end)) in
    λ done. started_all c.args.started (both_done (end_of_start c.args.started) (end_of t.end) (sym ends ∙ done)).0

pub returns-clause-lock : goal.returns-clause-lock
returns-clause-lock g c =
    let xs = c.split_last-jobs.result.0.items in let t = c.split_last-jobs.result.1 in let js = c.args.jobs.items in let All = c.args.started ≡ started.All in
    let split : js ≡ xs ++ t ∷ [] = c.split_last-jobs.ensures in
    let ran = item_last xs js t (λ v. TickerRan g.T.Pacer.given g.T.Pacer.ended c.args.shared.now c.requires.ticker.0 c.requires.ticker.1 c.args.turns All v.task v.pass v.end) split c.requires.ticker.2 in
    let o = c.open_ticker-pass.ensures in
    let told = ticker_taken g.P.Port.given g.P.Port.offered g.P.Port.asked g.T.Pacer.given g.T.Pacer.ended c.args.shared.now c.args.turns All c.requires.ticker.0 c.requires.ticker.1 t.task t.pass t.end c.open_ticker-pass.result.1 c.open_ticker-pass.result.0 o.task o.pass ran in
    let r = c.gather-pass.ensures in (r.lock.0, r.lock.1 ∙ told.0.1)

pub returns-clause-done : goal.returns-clause-done
returns-clause-done g c =
    let t = c.split_last-jobs.result.1 in
    let ends : c.first_end-end.result ≡ first_end (end_of_start c.args.started) (end_of t.end) = c.first_end-end.ensures ∙ ap (λ a. first_end a c.end_of.result) c.end_of_start.ensures ∙ ap (λ b. first_end (end_of_start c.args.started) b) (c.end_of.ensures ∙ ap end_of (sym c.open_ticker-pass.ensures.end)) in
    let r = c.gather-pass.ensures in (
      λ done. started_all c.args.started (both_done (end_of_start c.args.started) (end_of t.end) (sym ends ∙ r.done done)).0,
      (λ none. started_refused c.args.started (not_started (end_of_start c.args.started) t.end (sym ends ∙ r.not_started.0 none)), λ refused. r.not_started.1 (ends ∙ ap (λ (s : Started). first_end (end_of_start s) (end_of t.end)) refused)),
    )

pub returns-clause-ran : goal.returns-clause-ran
returns-clause-ran g c =
    λ share before is.
    let xs = c.split_last-jobs.result.0.items in let t = c.split_last-jobs.result.1 in let js = c.args.jobs.items in let All = c.args.started ≡ started.All in
    let split : js ≡ xs ++ t ∷ [] = c.split_last-jobs.ensures in
    let ran = item_last xs js t (λ v. TickerRan g.T.Pacer.given g.T.Pacer.ended c.args.shared.now share before c.args.turns All v.task v.pass v.end) split is in
    let o = c.open_ticker-pass.ensures in
    let told = ticker_taken g.P.Port.given g.P.Port.offered g.P.Port.asked g.T.Pacer.given g.T.Pacer.ended c.args.shared.now c.args.turns All share before t.task t.pass t.end c.open_ticker-pass.result.1 c.open_ticker-pass.result.0 o.task o.pass ran in
    let ends : c.first_end-end.result ≡ first_end (end_of_start c.args.started) (end_of t.end) = c.first_end-end.ensures ∙ ap (λ a. first_end a c.end_of.result) c.end_of_start.ensures ∙ ap (λ b. first_end (end_of_start c.args.started) b) (c.end_of.ensures ∙ ap end_of (sym c.open_ticker-pass.ensures.end)) in
    let n : ℕ = length xs in let k : ℕ = circuit_turns c.args.turns + circuit_turns c.args.turns in let r = c.gather-pass.ensures in let pacer = c.open_ticker-pass.result.1 in
    let longer : length js ≡ suc n = suc_longer xs js t split in
    let more : length js * k ≡ n * k + k = ap (λ z. z * k) longer ∙ suc-mul n k in (
      omega (arith, r.share, told.1, more),
      (
        ap (λ es. seconds es) r.ticker ∙ (told.4.0 ∙ ap (λ es. length es) (sym r.ticker)),
        λ done. let both = both_done (end_of_start c.args.started) (end_of t.end) (sym ends ∙ r.done done) in
            subst (λ es. (g.T.Pacer.given pacer ≡ before + seconds es) × ((seconds es ≡ c.args.turns) ⊎ (g.T.Pacer.ended pacer ≡ true))) (sym r.ticker)
            (told.4.1 (started_all c.args.started both.0, both.1)),
      ),
    )

pub returns-clause-count : goal.returns-clause-count
returns-clause-count g c =
    let xs = c.split_last-jobs.result.0.items in let js = c.args.jobs.items in
    let longer : length js ≡ suc (length xs) = suc_longer xs js c.split_last-jobs.result.1 c.split_last-jobs.ensures in
    omega (arith, c.gather-pass.ensures.count, longer)

pub returns-clause-opened : goal.returns-clause-opened
returns-clause-opened g c =
    λ opens all i.
    let xs = c.split_last-jobs.result.0.items in let t = c.split_last-jobs.result.1 in let js = c.args.jobs.items in
    c.gather-pass.ensures.opened opens (items_before xs js t (λ j v. IsOpened g.P.Port.opening (opens j) v.task) c.split_last-jobs.ensures all) i

pub returns-clause-whole : goal.returns-clause-whole
returns-clause-whole g c =
    let xs = c.split_last-jobs.result.0.items in let js = c.args.jobs.items in
    let longer : length js ≡ suc (length xs) = suc_longer xs js c.split_last-jobs.result.1 c.split_last-jobs.ensures in
    let some : 0 < length xs = omega (arith, longer, c.requires.some) in
    c.gather-pass.ensures.whole some
