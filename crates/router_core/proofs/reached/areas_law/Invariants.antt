use Rattle.std.proofs.Common.{take}
use Rattle.std.specs.List.{AllByRecursion}
use Rattle.isis_tlv.specs.Fits.{IsArea}
use Rattle.router_core.proofs.reached.areas_law.Given as goal

-- those so far
abbrev pub invariant-loop-place : goal.invariant-loop-place
invariant-loop-place l = AllByRecursion IsArea (take l.place l.areas)
