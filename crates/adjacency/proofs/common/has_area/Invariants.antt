use Rattle.std.proofs.Common.{◌≡◌, drop}
use Rattle.model_router.specs.Adjacencies as model
use Rattle.adjacency.proofs.common.has_area.Given as goal

-- what is left decides
abbrev pub invariant-loop-area : goal.invariant-loop-area
invariant-loop-area l = model.has_area l.areas l.octets ≡ model.has_area (drop l.area-index l.areas) l.octets
