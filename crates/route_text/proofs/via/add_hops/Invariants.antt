use Rattle.std.proofs.Common.{◌≡◌, ◌++◌, drop}
use Rattle.std.specs.List.{flat_map}
use Rattle.route_text.specs.ViaText.{hop_text}
use Rattle.route_text.proofs.via.add_hops.Given as goal

-- what is written, and what is left
abbrev pub invariant-loop-place : goal.invariant-loop-place
invariant-loop-place l =
    l.page ++ flat_map hop_text (drop l.place l.hops) ≡ l.fn.page ++ flat_map hop_text l.hops
