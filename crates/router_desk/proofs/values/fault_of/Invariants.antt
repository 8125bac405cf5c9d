use Rattle.std.proofs.Common.{◌≡◌}
use Rattle.isis_tlv.specs.Walks.{fault_of}
use Rattle.router_desk.proofs.values.fault_of.Given as goal

-- the fault of what is left is that of the whole
abbrev pub invariant-loop-item : goal.invariant-loop-item
invariant-loop-item g l =
    (fault_of l.item-iterator ≡ fault_of l.fn.items)
    × (goal.iterator-loop-item g).can_next l.item-iterator
    × (goal.iterator-loop-item g).is_finite l.item-iterator
