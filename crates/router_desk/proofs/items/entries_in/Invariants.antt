use Rattle.std.proofs.Common.{◌≡◌, ◌++◌}
use Rattle.std.specs.Result.{ok_prefix}
use Rattle.isis_tlv.specs.Items.{entries_of}
use Rattle.model_datagram.specs.Values.{entries_in}
use Rattle.router_desk.specs.Left.{items_left}
use Rattle.router_desk.proofs.items.entries_in.Given as goal

-- what was read, and what the TLVs that are left say, give the whole
abbrev pub invariant-loop-tlv : goal.invariant-loop-tlv
invariant-loop-tlv l = l.list.items ++ ok_prefix (items_left 9 entries_of l.tlv-iterator) ≡ ok_prefix (entries_in l.tlvs)

-- the same with what is left of a TLV
abbrev pub invariant-loop-entry : goal.invariant-loop-entry
invariant-loop-entry l =
    (l.list.items ++ ok_prefix (l.entry-iterator ++ items_left 9 entries_of l.tlv-iterator) ≡ ok_prefix (entries_in l.tlvs))
    × (goal.iterator-loop-entry).can_next l.entry-iterator
    × (goal.iterator-loop-entry).is_finite l.entry-iterator
