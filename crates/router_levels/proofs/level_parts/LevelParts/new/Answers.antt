use Rattle.std.proofs.Common.{refl}
use Rattle.router_levels.proofs.PointLemmas.{points-are}
use Rattle.router_levels.proofs.level_parts.LevelParts.new.Goals as goal

pub returns-clause-state : goal.returns-clause-state
returns-clause-state c circuits are =
    let points = points-are circuits c.args.kinds.now c.in_ok-book.book.points c.in_ok-book.ensures.points are in
    rw (c.in_ok-book.ensures.store, c.in_ok-book.ensures.opened, points, c.new-own.ensures, c.in_ok-gone.ensures) refl
