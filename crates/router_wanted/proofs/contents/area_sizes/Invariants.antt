use Rattle.std.proofs.Common.{◌*◌, ◌≤◌, length}
use Rattle.isis_tlv.specs.Spelling.{area_value}
use Rattle.router_wanted.proofs.contents.area_sizes.Given as goal

-- where those that are left have so many octets, all have
abbrev pub invariant-loop-left : goal.invariant-loop-left
invariant-loop-left l =
    length (area_value l.left) ≤ 14 * length l.left → length (area_value l.areas) ≤ 14 * length l.areas

abbrev pub decreases-loop-left : goal.decreases-loop-left
decreases-loop-left l = length l.left
