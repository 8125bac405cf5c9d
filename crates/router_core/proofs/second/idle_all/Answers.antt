use Rattle.std.proofs.Common.{◌+◌, ◌-◌, arith, ◌∙◌}
use Rattle.model_router.specs.Elections.{idle}
use Rattle.router_core.proofs.SecondLemmas.{changed-next, changed-all, same-count}
use Rattle.router_core.proofs.second.idle_all.Goals as goal

-- src/second.rt
pub loop-place-preserved : goal.loop-place-preserved
loop-place-preserved c = record {
  state = λ config e. changed-next (idle config) c.loop-place.place (c.loop-place.place + 1 - 1) c.args.circuits.now.items c.loop-place.circuits.items c.idle_at.new.circuits.items
      (omega arith) (omega (arith, c.loop-place-test.true, c.len-place-end.ensures, c.args.circuits.now.ok.0)) (c.loop-place.invariant.state config e) (c.idle_at.ensures.state config e);
  count = same-count c.idle_at.new.circuits.items c.loop-place.circuits.items c.idle_at.ensures.same ∙ c.loop-place.invariant.count;
  same = c.idle_at.ensures.same ∙ c.loop-place.invariant.same;
  fit = λ a. c.idle_at.ensures.fit (c.loop-place.invariant.fit a);
}

-- src/second.rt
pub returns-clause-state : goal.returns-clause-state
returns-clause-state c config e =
    c.loop-place.invariant.state config e
    ∙ changed-all config 0 c.loop-place.place c.args.circuits.now.items (omega (arith, c.loop-place-test.false, c.len-place-end.ensures, c.args.circuits.now.ok.0))
