use Rattle.std.proofs.Common.{if◌then◌else◌, ap, ◌∙◌}
use Rattle.model_router.specs.Elections as model
use Rattle.router_circuits.specs.Elections.{candidate_of}
use Rattle.router_circuits.proofs.ElectLemmas.{elect-step}
use Rattle.router_circuits.proofs.election.elected.Goals as goal

pub loop-neighbour-preserved : goal.loop-neighbour-preserved
loop-neighbour-preserved c =
    let loop = c.loop-neighbour in
    let best = candidate_of loop.best in
    let next = c.greater-best.ensures ∙ ap (λ (m : model.Candidate). if model.beats m best then m else best) c.candidate.ensures in
    elect-step best (candidate_of c.greater-best.result) c.args.up.now loop.neighbour-index _ c.loop-neighbour-test.true next ∙ loop.invariant
