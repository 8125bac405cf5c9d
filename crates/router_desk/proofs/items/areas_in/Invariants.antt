use Rattle.std.proofs.Common.{◌≡◌, ◌++◌}
use Rattle.std.specs.Result.{ok_prefix}
use Rattle.isis_tlv.specs.Items.{areas_of}
use Rattle.model_datagram.specs.Values.{areas_in}
use Rattle.router_desk.specs.Left.{items_left}
use Rattle.router_desk.proofs.items.areas_in.Given as goal

-- what was read, and what the TLVs that are left say, give the whole
abbrev pub invariant-loop-tlv : goal.invariant-loop-tlv
invariant-loop-tlv l = l.list.items ++ ok_prefix (items_left 1 areas_of l.tlv-iterator) ≡ ok_prefix (areas_in l.tlvs)

-- the same with what is left of a TLV
abbrev pub invariant-loop-area : goal.invariant-loop-area
invariant-loop-area l =
    (l.list.items ++ ok_prefix (l.area-iterator ++ items_left 1 areas_of l.tlv-iterator) ≡ ok_prefix (areas_in l.tlvs))
    × (goal.iterator-loop-area).can_next l.area-iterator
    × (goal.iterator-loop-area).is_finite l.area-iterator
