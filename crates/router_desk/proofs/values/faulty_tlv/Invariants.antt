use Rattle.std.proofs.Common.{◌≡◌}
use Rattle.std.specs.Prelude.{find}
use Rattle.std.specs.Option.{is_some}
use Rattle.std.specs.Result.{ok_prefix}
use Rattle.router_desk.specs.Values.{value_fault, faulty_tlv}
use Rattle.router_desk.proofs.values.faulty_tlv.Given as goal

-- the TLV is the first with a fault among those that are left
abbrev pub invariant-loop-tlv : goal.invariant-loop-tlv
invariant-loop-tlv l =
    find (λ tlv. is_some (value_fault l.kind tlv)) (ok_prefix l.tlv-iterator) ≡ faulty_tlv l.kind l.tlvs
