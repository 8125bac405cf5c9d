use Rattle.std.proofs.Common.{◌≤◌, ◌*◌, ◌+◌, length}
use Rattle.isis_tlv.specs.Spelling.{area_value}
use Rattle.lsp_fragments.proofs.first.add_areas.Given as goal

-- those that were looked at have at most 14 octets each
abbrev pub invariant-loop-left : goal.invariant-loop-left
invariant-loop-left l =
    length (area_value l.areas) + 14 * length l.left ≤ 14 * length l.areas + length (area_value l.left)

abbrev pub decreases-loop-left : goal.decreases-loop-left
decreases-loop-left l = length l.left
