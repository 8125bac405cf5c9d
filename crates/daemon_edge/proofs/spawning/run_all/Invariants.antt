use Rattle.std.proofs.Common.{◌≡◌, ◌≤◌, ◌++◌, true, Contains, length, vec_capacity}
use Rattle.isis_edge.specs.Faults.{Rose}
use Rattle.daemon_edge.proofs.spawning.run_all.Given as goal

abbrev pub invariant-loop : goal.invariant-loop
invariant-loop g l =
    (l.workers.items ≡ l.fn.workers.items) × (length l.refused.items ≡ l.counter) × (l.count ≤ vec_capacity l.refused) × (g.S.Spawner.faults l.fn.spawner ≤ g.S.Spawner.faults l.spawner)
    × (g.S.Spawner.answers l.spawner ≡ g.S.Spawner.answers l.fn.spawner ++ l.refused.items) × (Contains l.refused.items true → Rose (g.S.Spawner.faults l.fn.spawner) (g.S.Spawner.faults l.spawner))
