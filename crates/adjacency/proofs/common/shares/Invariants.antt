use Rattle.std.proofs.Common.{◌≡◌, drop}
use Rattle.model_router.specs.Adjacencies as model
use Rattle.adjacency.proofs.common.shares.Given as goal

-- what is left decides
abbrev pub invariant-loop-area : goal.invariant-loop-area
invariant-loop-area l = model.shares l.own l.heard ≡ model.shares l.own (drop l.area-index l.heard)
