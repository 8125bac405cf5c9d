use Rattle.std.proofs.Common.{ℕ, ◌+◌, ◌-◌, arith, ◌∙◌}
use Rattle.model_router.specs.Routers.{Circuit}
use Rattle.router_core.specs.Seconds.{later}
use Rattle.router_core.proofs.SecondLemmas.{changed-next, changed-map-all, same-count}
use Rattle.router_core.proofs.second.pass_circuits.Goals as goal

-- src/second.rt
pub loop-place-preserved : goal.loop-place-preserved
loop-place-preserved c = record {
  state = changed-next (λ (_ : ℕ) (x : Circuit). later x) c.loop-place.place (c.loop-place.place + 1 - 1) c.args.circuits.now.items c.loop-place.circuits.items c.second_at.new.circuits.items
      (omega arith) (omega (arith, c.loop-place-test.true, c.len-place-end.ensures, c.args.circuits.now.ok.0)) c.loop-place.invariant.state c.second_at.ensures.state;
  count = same-count c.second_at.new.circuits.items c.loop-place.circuits.items c.second_at.ensures.same ∙ c.loop-place.invariant.count;
  same = c.second_at.ensures.same ∙ c.loop-place.invariant.same;
  fit = λ a. c.second_at.ensures.fit (c.loop-place.invariant.fit a);
}

-- src/second.rt
pub returns-clause-state : goal.returns-clause-state
returns-clause-state c =
    c.loop-place.invariant.state
    ∙ changed-map-all later c.loop-place.place c.args.circuits.now.items (omega (arith, c.loop-place-test.false, c.len-place-end.ensures, c.args.circuits.now.ok.0))
