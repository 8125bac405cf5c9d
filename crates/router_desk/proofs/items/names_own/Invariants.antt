use Rattle.std.proofs.Common.{◌≡◌, ◌++◌}
use Rattle.std.specs.Result.{ok_prefix}
use Rattle.isis_tlv.specs.Items as items
use Rattle.model_router.specs.Numbers.{system_number}
use Rattle.model_datagram.specs.Values.{snpas_in, lists}
use Rattle.router_desk.specs.Left.{items_left}
use Rattle.router_desk.proofs.items.names_own.Given as goal

-- one's own stands among the SNPAs that are left exactly where it stands among all
abbrev pub invariant-loop-tlv : goal.invariant-loop-tlv
invariant-loop-tlv l =
    lists (system_number l.own) (ok_prefix (items_left 6 items.snpas_of l.tlv-iterator)) ≡ lists (system_number l.own) (ok_prefix (snpas_in l.tlvs))

-- the same with what is left of a TLV
abbrev pub invariant-loop-snpa : goal.invariant-loop-snpa
invariant-loop-snpa l =
    (lists (system_number l.own) (ok_prefix (l.snpa-iterator ++ items_left 6 items.snpas_of l.tlv-iterator)) ≡ lists (system_number l.own) (ok_prefix (snpas_in l.tlvs)))
    × (goal.iterator-loop-snpa).can_next l.snpa-iterator
    × (goal.iterator-loop-snpa).is_finite l.snpa-iterator
