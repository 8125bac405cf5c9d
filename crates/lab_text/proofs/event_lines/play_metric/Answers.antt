use Rattle.std.proofs.Common.{ℕ, ◌<◌, length, sym, subst, arith}
use Rattle.model_router.specs.Places.{nth}
use Rattle.model_router.specs.Routers.{Router}
use Rattle.lab_text.proofs.EndLemmas.{circuit-there, if-some-more}
use Rattle.lab_text.proofs.event_lines.play_metric.Goals as goal

pub circuit_of-circuit-requires-clause-there : goal.circuit_of-circuit-requires-clause-there
circuit_of-circuit-requires-clause-there g c =
    circuit-there c.args.script.now c.args.net.now.seen c.links-links.ensures.sound c.requires.laid c.facts.ensures.ends c.args.router c.args.place c.requires.there.1

pub play_change-requires-clause-there : goal.play_change-requires-clause-there
play_change-requires-clause-there g c = (
  subst (λ (n : ℕ). c.args.router < n) (sym c.requires.laid.routers_are) c.requires.there.0,
  if-some-more (λ (r : Router). c.args.place < length r.circuits) _ (nth c.args.net.now.seen.routers c.args.router)
      (λ r h. ((omega (arith, c.circuit_of-circuit.ensures), omega (arith, h, c.circuit_of-circuit.ensures)), c.requires.metric))
      (circuit-there c.args.script.now c.args.net.now.seen c.links-links.ensures.sound c.requires.laid c.facts.ensures.ends c.args.router c.args.place c.requires.there.1),
)
