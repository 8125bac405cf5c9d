use Rattle.std.proofs.Common.{rules, ◌<◌, List, length, refl, ap, sym, ◌∙◌, arith}
use Rattle.std.proofs.lemmas.Result.{on_ok_weaker}
use Rattle.weave_core.specs.declared.moves.Turn.{Turn}
use Rattle.weave.specs.Moves.{move_of}
use Rattle.weave.specs.Plays.{HasHappened}
use Rattle.weave.proofs.PlayLemmas.{turn-plan, party-there, plan-is, step-next, step-there, turn-played}
use Rattle.weave.proofs.playing.play_turn.Goals as goal

pub offset_bounds-plans-turn : goal.offset_bounds-plans-turn
offset_bounds-plans-turn c =
    let less : c.args.turn.now.party < length c.args.plans.now = party-there c.args.turn.now c.args.plans.now c.args.network.now (turn-plan c.args.turn.now c.args.plans.now c.args.network.now c.requires) in
    search rules

pub bounds-plans-turn : goal.bounds-plans-turn
bounds-plans-turn c = party-there c.args.turn.now c.args.plans.now c.args.network.now (turn-plan c.args.turn.now c.args.plans.now c.args.network.now c.requires)

pub take_step-step-requires : goal.take_step-step-requires
take_step-step-requires c =
    let t = turn-plan c.args.turn.now c.args.plans.now c.args.network.now c.requires in
    let n = ap length (sym c.index-plans-turn.is ∙ plan-is c.args.turn.now c.args.plans.now c.args.network.now c.index-plans-turn.result t c.index-plans-turn.is) in
    omega (arith, n)

pub happen-requires : goal.happen-requires
happen-requires c =
    step-next c.args.turn.now c.args.plans.now c.args.network.now c.index-plans-turn.result c.take_step-step.new.self (move_of c.take_step-step.result) c.requires c.index-plans-turn.is
    (c.index-plans-turn.is ∙ c.take_step-step.ensures)

pub returns : goal.returns
returns c =
    on_ok_weaker c.happen.result
    (λ (happened : HasHappened c.args.network.now c.args.turn.now.party (move_of c.take_step-step.result) c.args.turn.now.taken c.args.schedule.now c.happen.new.schedule c.happen.new.network) (more : List Turn).
    turn-played c.args.schedule.now c.happen.new.schedule c.args.turn.now more c.args.plans.now _ c.args.network.now c.happen.new.network (move_of c.take_step-step.result) c.take_step-step.new.self
    c.facts.ensures.wired
    (step-there c.args.turn.now c.args.plans.now c.args.network.now c.index-plans-turn.result c.take_step-step.new.self (move_of c.take_step-step.result) c.requires c.index-plans-turn.is
    (c.index-plans-turn.is ∙ c.take_step-step.ensures)) refl happened)
    c.happen.ensures
