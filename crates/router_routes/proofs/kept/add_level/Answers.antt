use Rattle.router_routes.proofs.CandidateLemmas.{level-none-told}
use Rattle.router_routes.proofs.RoomLemmas.{among-room}
use Rattle.router_routes.proofs.kept.add_level.Goals as goal

pub returns-then-not-runs : goal.returns-then-not-runs
returns-then-not-runs c = level-none-told c.args.level c.args.runs _ _ c.args.list.now.items c.if-not-runs.true

pub add_told-requires-clause-room : goal.add_told-requires-clause-room
add_told-requires-clause-room c =
    among-room c.distances.result.now c.number-root.result c.args.nodes.now c.in-Ok.systems.items c.as_slice.result.now c.distances.ensures.small c.in-Ok.ensures c.as_slice.ensures.value
