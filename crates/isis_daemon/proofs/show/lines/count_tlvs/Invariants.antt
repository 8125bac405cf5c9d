use Rattle.std.proofs.Common.{◌≡◌, ◌+◌, ◌^◌, ◌<◌, length}
use Rattle.std.specs.Result.{ok_prefix}
use Rattle.isis_tlv.specs.Tlvs.{tlv_list}
use Rattle.isis_daemon.proofs.show.lines.count_tlvs.Given as goal

-- those counted, and those that are left, are all
abbrev pub invariant-loop-item : goal.invariant-loop-item
invariant-loop-item l = record {
  all : l.count + length (ok_prefix l.item-iterator) ≡ length (tlv_list l.first l.tlvs);
  few : length (tlv_list l.first l.tlvs) < 2 ^ 64;
}
