use Rattle.std.proofs.Common.{◌≡◌}
use Rattle.std.specs.Prelude.{◌==◌, not}
use Rattle.std.specs.List.{list_any}
use Rattle.std.specs.Result.{ok_prefix}
use Rattle.hmac_auth.specs.Auth.{has_others}
use Rattle.hmac_auth.proofs.place.has_others.Given as goal

-- a TLV of another code is among those that are left, if there is one
abbrev pub invariant-loop-tlv : goal.invariant-loop-tlv
invariant-loop-tlv l = list_any (λ tlv. not (tlv.code == 10)) (ok_prefix l.tlv-iterator) ≡ has_others l.pdu l.header
