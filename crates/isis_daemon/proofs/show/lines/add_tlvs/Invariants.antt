use Rattle.std.proofs.Common.{◌≡◌, ◌++◌}
use Rattle.std.specs.List.{flat_map}
use Rattle.std.specs.Result.{ok_prefix}
use Rattle.isis_tlv.specs.Tlvs.{tlv_list}
use Rattle.isis_daemon.specs.ShowText.{tlv_lines}
use Rattle.isis_daemon.proofs.show.lines.add_tlvs.Given as goal

-- the lines so far, and those of the TLVs that are left, are all
abbrev pub invariant-loop-item : goal.invariant-loop-item
invariant-loop-item l =
    l.text ++ flat_map (tlv_lines l.long) (ok_prefix l.item-iterator)
    ≡ l.initial.text ++ flat_map (tlv_lines l.long) (tlv_list l.first l.tlvs)
