use Rattle.std.proofs.Common.{◌+◌, ◌<◌, ℕ, Bool, ◌||◌, drop, sym, ap, ◌∙◌, subst}
use Rattle.timeline_text.proofs.FlagLemmas.{any_runs, any-step}
use Rattle.timeline_text.proofs.agreements.is_run.Goals as goal

pub returns-then-runs_at : goal.returns-then-runs_at
returns-then-runs_at c =
    let routers = c.args.network.now.seen.routers in
    let i = c.loop-router.router in
    sym (c.loop-router.invariant ∙ any-step routers c.args.level i (subst (λ (n : ℕ). i < n) c.routers-router-end.ensures c.loop-router-test.true)
    ∙ ap (λ (b : Bool). b || any_runs (drop (i + 1) routers) c.args.level) (sym c.runs_at.ensures ∙ c.if-runs_at.true))

pub loop-router-preserved : goal.loop-router-preserved
loop-router-preserved c =
    let routers = c.args.network.now.seen.routers in
    let i = c.loop-router.router in
    c.loop-router.invariant ∙ any-step routers c.args.level i (subst (λ (n : ℕ). i < n) c.routers-router-end.ensures c.loop-router-test.true)
    ∙ ap (λ (b : Bool). b || any_runs (drop (i + 1) routers) c.args.level) (sym c.runs_at.ensures ∙ c.if-runs_at.false)
