use Rattle.std.proofs.Common.{◌≡◌}
use Rattle.std.specs.List.{list_any}
use Rattle.std.specs.Result.{ok_prefix}
use Rattle.isis_tlv.specs.Tlvs.{tlv_list}
use Rattle.daemon_edge.specs.OtherBoots.{names_other}
use Rattle.daemon_edge.proofs.other_boot.names_other.Given as goal

-- a TLV that names another boot number is among those that are left, if there is one
abbrev pub invariant-loop-tlv : goal.invariant-loop-tlv
invariant-loop-tlv l = list_any (names_other l.boot) (ok_prefix l.tlv-iterator) ≡ list_any (names_other l.boot) (tlv_list 0 l.tlvs)
