use Rattle.std.proofs.Common.{ℕ, ◌<◌, subst, arith}
use Rattle.timeline_text.proofs.FlagLemmas.{with-router}
use Rattle.timeline_text.proofs.flags.all_flags.Goals as goal

pub loop-router-preserved : goal.loop-router-preserved
loop-router-preserved c = record {
  flags = with-router c.args.level c.args.network.now.seen.routers c.loop-router.router c.loop-router.flags c.router_flags-flags.result (subst (λ (n : ℕ). c.loop-router.router < n) c.routers-router-end.ensures c.loop-router-test.true) c.loop-router.invariant.flags c.router_flags-flags.ensures.flags;
  few = omega (arith, c.loop-router.invariant.few, c.router_flags-flags.ensures.few);
}
